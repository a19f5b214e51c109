use Rattle.std.proofs.Common.{◌≡◌, ℕ, ◌<◌, ◌^◌, Option, Some, None, List, ◌⊎◌, inl, inr}
use Rattle.std.specs.Prelude.{MatchOption}
use Rattle.rf2_values.specs.declared.row.Kind.{Kind}
use Rattle.rf2_values.specs.declared.row.Kind.TheVariants as kinds
use Rattle.rf2_values.specs.Member.{SpellsMember}
use Rattle.rf2_values.specs.Row.{IsIdOf, SpellsId}
use Rattle.line_commands.proofs.columns.identifier.Goals as goal

member_is_id : (k : Kind) (text : List ℕ) (o : Option ℕ) → (k ≡ kinds.Association) ⊎ (k ≡ kinds.Member) → MatchOption o ((n : ℕ) → SpellsMember n text → ⊥) (λ n. (n < 2 ^ 128) × SpellsMember n text)
    → MatchOption o ((n : ℕ) → IsIdOf k n → SpellsId k n text → ⊥) (λ n. IsIdOf k n × SpellsId k n text)
member_is_id kinds.Association text None e h = λ n is spells. h n spells
member_is_id kinds.Association text (Some n) e h = h
member_is_id kinds.Member text None e h = λ n is spells. h n spells
member_is_id kinds.Member text (Some n) e h = h
member_is_id k text o (inl e) h = absurd (cc)
member_is_id k text o (inr e) h = absurd (cc)

pub returns-in-Association : goal.returns-in-Association
returns-in-Association c = member_is_id c.args.kind c.args.text.now c.member.result c.in-Association.is c.member.ensures
