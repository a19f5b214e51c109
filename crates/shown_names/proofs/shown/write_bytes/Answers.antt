use Rattle.std.proofs.Common.{sym, rules, ◌∙◌}
use Rattle.std.proofs.Output.{has_written_append, has_written_of_eq}
use Rattle.std.specs.Char.Escape.{escape_ascii}
use Rattle.shown_names.proofs.Steps.{spelled-more}
use Rattle.shown_names.proofs.shown.write_bytes.Goals as goal

pub loop-byte-preserved : goal.loop-byte-preserved
loop-byte-preserved g c =
    λ plain.
    has_written_of_eq _ _ _ _ _ (sym (spelled-more escape_ascii c.args.bytes.now c.loop-byte.byte-index 0 (search rules)))
    (has_written_append _ _ _ _ _ _ (c.loop-byte.invariant plain) (search rules))
