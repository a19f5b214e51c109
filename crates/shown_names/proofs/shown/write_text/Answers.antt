use Rattle.std.proofs.Common.{◌++◌, encode_utf8_all, sym, ap, ◌∙◌, append_assoc, append-nil, rules}
use Rattle.std.proofs.Output.{has_written_append, has_written_of_eq}
use Rattle.std.proofs.StrCases.{chars_of_empty}
use Rattle.std.proofs.lemmas.Str.{IsUtf8-past_char}
use Rattle.shown_names.specs.Shown.{shown_character}
use Rattle.shown_names.proofs.Steps.{text_past_char}
use Rattle.shown_names.proofs.shown.write_text.Goals as goal

pub characters-preserved : goal.characters-preserved
characters-preserved g c =
    let ok = c.characters.invariant.0 in
    let ch = c.in-Some.c in
    let parts = c.in-Some.ensures.steps.0 in (
      IsUtf8-past_char _ _ ch ok parts,
      λ plain.
          let now = c.characters.invariant.1 plain in (
            now.0 ++ encode_utf8_all (shown_character ch),
            has_written_append _ _ _ _ _ _ now.1 (search rules),
            append_assoc now.0 (encode_utf8_all (shown_character ch)) _
                ∙ ap (λ l. now.0 ++ l) (sym (text_past_char _ _ ch ok parts)) ∙ now.2,
          ),
    )

pub returns : goal.returns
returns g c =
    λ plain _.
    let now = c.characters.invariant.1 plain in
    has_written_of_eq _ _ _ _ _ (rw (chars_of_empty _ c.in_default.ensures.steps.0.0, append-nil) at now.2) now.1
