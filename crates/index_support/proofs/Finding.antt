-- Where a key is found in a list that stands in the order of its keys.
use Rattle.std.proofs.Common.{◌≡◌, ℕ, zero, suc, true, false, List, [], ◌∷◌, sym, ap, subst, inl, inr, ◌∙◌}
use Rattle.std.specs.Prelude.{Some, slice_get}
use Rattle.std.specs.Ordering.{is_lt}
use Rattle.std.specs.Cmp.{tied_itself}
use Rattle.std.specs.declared.cmp.Ordering.TheVariants.{Less, Equal}
use Rattle.rf2_values.specs.declared.key.Key.{Key}
use Rattle.rf2_values.specs.Key.{key_cmp}
use Rattle.rf2_values.specs.Private.{keys_total}
use Rattle.history_model.specs.InOrder.{Has, IsAscending}
use Rattle.history_model.proofs.InOrder.{Has-all}
use Rattle.as_of_index.specs.Private.Search.{is_under, SplitsAt}
use Rattle.as_of_index.proofs.Keyed.{keyed_cmp}

module _ {X : Type 0} (key : X → Key) where
  -- where a search for a key splits the list stands what has that key
  pub found_at : (k : Key) (xs : List X) (i : ℕ) (x : X) → IsAscending (keyed_cmp key) xs → SplitsAt (is_under key k) xs i → Has xs x → key x ≡ k → slice_get xs i ≡ Some x
  found_at k [] i x up split h e = absurd h
  found_at k (y ∷ ys) zero x up split h e = elim h [
    | inl s ↦ ap Some s
    | inr t ↦ absurd (
        let less : key_cmp (key y) k ≡ Less = subst (λ j. key_cmp (key y) j ≡ Less) e (Has-all (λ z. keyed_cmp key y z ≡ Less) ys x up.0 t) in
        let under : is_under key k y ≡ true = ap is_lt less in
        let both = sym under ∙ split.rest.0 in
        cc)
  ]
  found_at k (y ∷ ys) (suc i) x up split h e = elim h [
    | inl s ↦ absurd (
        let tie : key_cmp (key y) k ≡ Equal = subst (λ z. key_cmp (key z) k ≡ Equal) (sym s) (subst (λ j. key_cmp (key x) j ≡ Equal) e (tied_itself keys_total (key x))) in
        let not_under : is_under key k y ≡ false = ap is_lt tie in
        let both = sym split.before.0 ∙ not_under in
        cc)
    | inr t ↦ found_at k ys i x up.1 (record { before = split.before.1; rest = split.rest }) t e
  ]
