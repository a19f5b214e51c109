use Rattle.std.proofs.Common.{◌∙◌, sym, codes}
use Rattle.clap.specs.Matches.{found_of}
use Rattle.clap.proofs.WalkLemmas.{first_value-rows}
use Rattle.command_line.proofs.words.work_in.Goals as goal

pub returns-in_ok-get_str-in-serve : goal.returns-in_ok-get_str-in-serve
returns-in_ok-get_str-in-serve c = (
  c.in-serve.is,
  sym (first_value-rows (found_of c.args.found.now) (codes "releases")) ∙ sym c.in_ok-get_str-in-serve.ensures,
  c.is_set.ensures,
  c.words_of.ensures,
)
