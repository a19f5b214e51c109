-- Column names, from what stands behind those that each file of a kind has.
use Rattle.std.proofs.Common.{◌≡◌, ◌≢◌, ℕ, ◌<◌, ◌≤◌, Bool, true, false, List, [], ◌∷◌, ◌++◌, length, length-append, take, drop, take-append-drop, Option, Some, None, refl, sym, ap, subst, ◌∙◌, inl, inr, arith}
use Rattle.std.specs.Prelude.{nat_eq, MatchOption}
use Rattle.std.specs.Cmp.Lexicographic.{pointwise, same_text}
use Rattle.std.proofs.lemmas.Bool.{eqb-true}
use Rattle.std.proofs.lemmas.List.{append-nil, append_cancel_left}
use Rattle.std.proofs.lemmas.List.Elements.{All-nil}
use Rattle.std.proofs.lemmas.Str.{IsUtf8-nil}
use Rattle.rf2_values.specs.declared.row.Kind.{Kind}
use Rattle.rf2_values.specs.declared.row.Kind.TheVariants as kind
use Rattle.rf2_values.specs.Text.{IsFurther, further_columns}
use Rattle.rf2_values.specs.Row.{line_limit}
use Rattle.rf2_rows.specs.Line.{header}
use Rattle.rf2_rows.specs.File.{IsHeader}

-- what a text has behind its beginning
pub behind_prefix : (front text others : List ℕ) → pointwise nat_eq (take (length front) text) front ≡ true → others ≡ drop (length front) text → text ≡ front ++ others
behind_prefix front text others begins rest =
    sym (take-append-drop (length front) text) ∙ ap (λ (t : List ℕ). t ++ drop (length front) text) (same_text (take (length front) text) front (sym begins)) ∙ ap (λ (t : List ℕ). front ++ t) (sym rest)

pub named_alone : (k : Kind) (text : List ℕ) → text ≡ header k → length text ≤ line_limit → IsHeader k 0 text
named_alone kind.Concept text e short = (refl, e)
named_alone kind.Description text e short = (refl, e)
named_alone kind.Relationship text e short = (refl, e)
named_alone kind.Association text e short = (refl, e)
named_alone kind.Concrete text e short = (refl, e)
named_alone kind.Member text e short =
    ([], record { front = inl refl; utf8 = IsUtf8-nil; no_lf = All-nil (λ (b : ℕ). b ≢ 10) }, refl, e ∙ sym (append-nil (header kind.Member)), short)

member_names : (text others : List ℕ) (r : Option ℕ) → text ≡ header kind.Member ++ others → length text ≤ line_limit
    → MatchOption r (IsFurther others → ⊥) (λ n. IsFurther others × (n ≡ length (further_columns others))) → MatchOption r ((n : ℕ) → ¬ (IsHeader kind.Member n text)) (λ n. IsHeader kind.Member n text)
member_names text others None e short wrong = λ n h. wrong (subst IsFurther (append_cancel_left (header kind.Member) h.0 others (sym h.3 ∙ e)) h.1)
member_names text others (Some n) e short found = (others, found.0, found.1, e, short)

pub named_members : (k : Kind) (text others : List ℕ) (r : Option ℕ) → k ≡ kind.Member → text ≡ header k ++ others → length text ≤ line_limit
    → MatchOption r (IsFurther others → ⊥) (λ n. IsFurther others × (n ≡ length (further_columns others))) → MatchOption r ((n : ℕ) → ¬ (IsHeader k n text)) (λ n. IsHeader k n text)
named_members k text others r is e short found =
    subst (λ (l : Kind). text ≡ header l ++ others → MatchOption r ((n : ℕ) → ¬ (IsHeader l n text)) (λ n. IsHeader l n text)) (sym is) (λ same. member_names text others r same short found) e

longer : (front others text : List ℕ) → text ≡ front ++ others → 0 < length others → text ≡ front → ⊥
longer front others text e some same =
    let long = length-append front others in
    let size : length text ≡ length (front ++ others) = ap length e in
    let short : length text ≡ length front = ap length same in
    omega arith

pub not_named : (k : Kind) (text others : List ℕ) → (k ≡ kind.Member → ⊥) → text ≡ header k ++ others → 0 < length others → (n : ℕ) → ¬ (IsHeader k n text)
not_named kind.Concept text others other e some n h = longer (header kind.Concept) others text e some h.1
not_named kind.Description text others other e some n h = longer (header kind.Description) others text e some h.1
not_named kind.Relationship text others other e some n h = longer (header kind.Relationship) others text e some h.1
not_named kind.Association text others other e some n h = longer (header kind.Association) others text e some h.1
not_named kind.Concrete text others other e some n h = longer (header kind.Concrete) others text e some h.1
not_named kind.Member text others other e some n h = other refl

-- what a test for emptiness has told
pub emptied : (others : List ℕ) (test : Bool) → test ≡ nat_eq (length others) 0 → test ≡ true → others ≡ []
emptied [] test e t = refl
emptied (x ∷ xs) test e t = let none = eqb-true (length (x ∷ xs)) 0 (sym e ∙ t) in absurd (omega arith)

pub some_left : (others : List ℕ) (test : Bool) → test ≡ nat_eq (length others) 0 → test ≡ false → 0 < length others
some_left [] test e f = absurd (cc)
some_left (x ∷ xs) test e f = omega arith
