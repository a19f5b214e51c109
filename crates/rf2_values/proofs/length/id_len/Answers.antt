use Rattle.std.proofs.Common.{ℕ, ◌≡◌, ◌⊎◌, inl, inr, length, sym, subst}
use Rattle.rf2_values.specs.declared.row.Kind.{Kind}
use Rattle.rf2_values.specs.declared.row.Kind.TheVariants as kind
use Rattle.rf2_values.specs.Row.{id_text}
use Rattle.rf2_values.specs.Member.{member_text}
use Rattle.uuid.proofs.TextLemmas.{by_index_length}
use Rattle.rf2_values.proofs.length.id_len.Goals as goal

member_length : (n : ℕ) → 36 ≡ length (member_text n)
member_length n = sym (by_index_length 36 _)

same_length : (k : Kind) (n : ℕ) → (k ≡ kind.Association) ⊎ (k ≡ kind.Member) → 36 ≡ length (id_text k n)
same_length k n (inl e) = subst (λ (k : Kind). 36 ≡ length (id_text k n)) (sym e) (member_length n)
same_length k n (inr e) = subst (λ (k : Kind). 36 ≡ length (id_text k n)) (sym e) (member_length n)

pub returns-in-Association-clause-value : goal.returns-in-Association-clause-value
returns-in-Association-clause-value c = same_length c.args.kind c.args.id c.in-Association.is
