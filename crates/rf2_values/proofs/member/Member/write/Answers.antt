use Rattle.std.proofs.Common.{ℕ, ap, ◌∙◌}
use Rattle.std.specs.Int.{to_be_bytes, w128}
use Rattle.uuid.specs.Text.{hyphenated_text, lower}
use Rattle.rf2_values.proofs.Members.{appended}
use Rattle.rf2_values.proofs.member.Member.write.Goals as goal

pub returns-clause-ok : goal.returns-clause-ok
returns-clause-ok c =
    let bytes = c.hyphenated.ensures ∙ c.from_u128.ensures ∙ ap (λ (n : ℕ). to_be_bytes w128 n) c.value.ensures in
    appended _ _ _ _ _ c.extend_from_slice.ensures.items (c.as_bytes.ensures.value ∙ c.encode_lower-text.ensures.text ∙ ap (λ b. hyphenated_text lower b) bytes)
