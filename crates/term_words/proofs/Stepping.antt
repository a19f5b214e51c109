-- One posting more of a merge.
use Rattle.std.proofs.Common.{◌≡◌, ℕ, false, true, List, refl, sym, ap, subst, ◌∙◌}
use Rattle.std.specs.Prelude.{Option, Some, None, Result, OnOk, OnErr, slice_get, if◌then◌else◌}
use Rattle.std.specs.Ordering.{nat_cmp, is_lt}
use Rattle.std.specs.Cmp.Lexicographic.{slice_cmp}
use Rattle.std.proofs.lemmas.Option.{same_Some}
use Rattle.as_of_index.specs.Numbers.{TwoLists}
use Rattle.term_prefix.specs.Terms.{TermAt, TextsRise}
use Rattle.term_prefix.specs.Merged.{MergedTerms, terms_left}
use Rattle.term_prefix.specs.Private.{next_of, first_taken, second_taken}
use Rattle.term_prefix.proofs.InTurns.{IsStep, stepped_first, stepped_second, none_left}
use Rattle.term_words.specs.declared.ordered.Placed.{Placed}
use Rattle.term_words.specs.Private.{SaysPlaced}

-- the first list has the next one, unless that of the second list is less
first_is : (t : TermAt) (o : Option TermAt) → ((u : TermAt) → o ≡ Some u → is_lt (slice_cmp nat_cmp u.folded t.folded) ≡ false) → next_of (Some t) o ≡ next_of (Some t) None
first_is t None h = refl
first_is t (Some u) h = ap (λ b. if b then next_of None (Some u) else next_of (Some t) None) (h u refl)

second_is : (u : TermAt) (o : Option TermAt) → ((t : TermAt) → o ≡ Some t → is_lt (slice_cmp nat_cmp u.folded t.folded) ≡ true) → next_of o (Some u) ≡ next_of None (Some u)
second_is u None h = refl
second_is u (Some t) h = ap (λ b. if b then next_of None (Some u) else next_of (Some t) None) (h t refl)

module _ (lists : TwoLists) (a b : List TermAt) (up : TextsRise a × TextsRise b) (m : MergedTerms) where
  pub step_first : {A B : Type 0} (r : Result A B) (m' : MergedTerms) (t : TermAt) → slice_get a m.taken.first ≡ Some t → ((u : TermAt) → slice_get b m.taken.second ≡ Some u → is_lt (slice_cmp nat_cmp u.folded t.folded) ≡ false) → OnOk r (m' ≡ first_taken lists t m) → OnErr r (m' ≡ m) → IsStep lists a b up m r m'
  step_first r m' t there low ok err =
      stepped_first lists a b up m r m' (ap (λ o. next_of o (slice_get b m.taken.second)) there ∙ first_is t (slice_get b m.taken.second) low)
      (λ s e. subst (λ (z : TermAt). OnOk r (m' ≡ first_taken lists z m)) (same_Some t s (sym there ∙ e)) ok) err

  pub step_second : {A B : Type 0} (r : Result A B) (m' : MergedTerms) (u : TermAt) → slice_get b m.taken.second ≡ Some u → ((t : TermAt) → slice_get a m.taken.first ≡ Some t → is_lt (slice_cmp nat_cmp u.folded t.folded) ≡ true) → OnOk r (m' ≡ second_taken lists u m) → OnErr r (m' ≡ m) → IsStep lists a b up m r m'
  step_second r m' u there low ok err =
      stepped_second lists a b up m r m' (ap (λ o. next_of (slice_get a m.taken.first) o) there ∙ second_is u (slice_get a m.taken.first) low)
      (λ s e. subst (λ (z : TermAt). OnOk r (m' ≡ second_taken lists z m)) (same_Some u s (sym there ∙ e)) ok) err

  pub took_none : slice_get a m.taken.first ≡ None → slice_get b m.taken.second ≡ None → terms_left a b m ≡ 0
  took_none e f = none_left lists a b up m (λ i. next_of (e i) (f i))

-- what was read of a list that is seen as `ts`, at its number
pub says_of : (ts us : List TermAt) (n k : ℕ) (r : Option Placed) → us ≡ ts → k ≡ n → SaysPlaced (slice_get us k) r → SaysPlaced (slice_get ts n) r
says_of ts us n k r same at says = subst (λ j. SaysPlaced (slice_get ts j) r) at (subst (λ xs. SaysPlaced (slice_get xs k) r) same says)
