-- Columns of any meaning, from the texts that a line holds.
use Rattle.std.proofs.Common.{◌≡◌, ◌≢◌, ℕ, zero, suc, List, [], ◌∷◌, length, Option, Some, None, refl, sym, ap, subst, ◌∙◌, inl, inr, arith, All}
use Rattle.std.specs.Prelude.{replicate, MatchOption}
use Rattle.std.specs.List.{AllByRecursion}
use Rattle.std.proofs.lemmas.Bool.{ne_eqb}
use Rattle.std.proofs.lemmas.List.{length-replicate}
use Rattle.rf2_values.specs.Text.{IsFurther, further_columns}
use Rattle.rf2_values.specs.Private.{tabbed}
use Rattle.rf2_values.proofs.FurtherColumns.{tabbed_line, columns_are_further}
use Rattle.rf2_rows.specs.declared.fault.LineFault.{LineFault}
use Rattle.rf2_rows.specs.declared.fault.LineFault.TheVariants as fault
use Rattle.rf2_rows.specs.Line.{Any, FirstFault}
use Rattle.rf2_rows.specs.Private.{HaveNoTab}
use Rattle.rf2_rows.proofs.Splits.{IsFree, split-joined}
use Rattle.rf2_rows.proofs.Decided.{each_column, any_columns}

free : (text : List ℕ) → All (λ b. b ≢ 9) text → IsFree 9 text
free text h = λ k d l. ne_eqb _ 9 (h k d l)

all_free : (texts : List (List ℕ)) → HaveNoTab texts → AllByRecursion (IsFree 9) texts
all_free [] h = tt
all_free (t ∷ ts) h = (free t h.0, all_free ts h.1)

-- texts without TAB, each after one, are the columns that they were
pub further_again : (texts : List (List ℕ)) → HaveNoTab texts → further_columns (tabbed texts) ≡ texts
further_again [] h = refl
further_again (t ∷ ts) h = ap further_columns (tabbed_line t ts) ∙ split-joined 9 t ts (free t h.0) (all_free ts h.1)

-- a column of any meaning has one fault alone
any_fault : (n : ℕ) (texts : List (List ℕ)) (f : LineFault) → FirstFault (replicate n Any) texts f → f ≡ fault.EmptyText
unfolding FirstFault
any_fault zero texts f h = absurd h
any_fault (suc n) [] f h = absurd h
any_fault (suc n) (t ∷ ts) f (inl h) = h.1
any_fault (suc n) (t ∷ ts) f (inr h) = any_fault n ts f h.1

-- texts that are no further columns have that fault
pub no_further : (n : ℕ) (texts : List (List ℕ)) → n ≡ length texts → (IsFurther (tabbed texts) → ⊥) → FirstFault (replicate n Any) texts fault.EmptyText
no_further n texts many wrong =
    elim (each_column (replicate n Any) texts (sym (length-replicate n Any ∙ many))) [
      | inl stand ↦ absurd (wrong (columns_are_further texts (any_columns n texts stand)))
      | inr bad ↦ subst (λ (f : LineFault). FirstFault (replicate n Any) texts f) (any_fault n texts bad.0 bad.1) bad.1
    ]

-- what further columns are kept of texts, each after a TAB
pub kept : (found : Option (List ℕ)) (bytes : List ℕ) (texts : List (List ℕ)) (f : List ℕ) → found ≡ Some f → bytes ≡ tabbed texts → HaveNoTab texts
    → MatchOption found (IsFurther bytes → ⊥) (λ g. (g ≡ bytes) × IsFurther g) → IsFurther f × (texts ≡ further_columns f)
kept None bytes texts f e same free h = absurd (cc)
kept (Some g) bytes texts f e same free h =
    let one : g ≡ f = cc in
    (subst IsFurther one h.1, sym (ap further_columns (sym one ∙ h.0 ∙ same) ∙ further_again texts free))

pub refused : (found : Option (List ℕ)) (bytes : List ℕ) (texts : List (List ℕ)) (n : ℕ) → found ≡ None → bytes ≡ tabbed texts → n ≡ length texts
    → MatchOption found (IsFurther bytes → ⊥) (λ g. (g ≡ bytes) × IsFurther g) → FirstFault (replicate n Any) texts fault.EmptyText
refused None bytes texts n e same many h = no_further n texts many (λ is. h (subst IsFurther (sym same) is))
refused (Some g) bytes texts n e same many h = absurd (cc)
