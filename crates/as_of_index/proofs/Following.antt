-- The least place that a search doesn't pass over, of one list and of several.
use Rattle.std.proofs.Common.{◌≡◌, ℕ, zero, suc, true, false, List, [], ◌∷◌, ◌++◌, refl, sym, ap, subst, inl, inr, ◌∙◌}
use Rattle.std.specs.Prelude.{Option, Some, None, slice_get}
use Rattle.std.specs.Ordering.{ordering_reverse}
use Rattle.std.specs.declared.cmp.Ordering.{Ordering}
use Rattle.std.specs.declared.cmp.Ordering.TheVariants.{Less, Equal, Greater}
use Rattle.history_model.specs.InOrder.{Has, IsAscending}
use Rattle.history_model.proofs.InOrder.{Has-all, Has-append_left, Has-append_right, Has-append_cases, not_both, not_below_itself, above}
use Rattle.history_model.proofs.Filtered.{Has-map_from}
use Rattle.segment.specs.declared.place.RowPlace.{RowPlace}
use Rattle.as_of_index.specs.declared.search.Start.{Start}
use Rattle.as_of_index.specs.Places.{place_cmp}
use Rattle.as_of_index.specs.Private.Search.{in_segment, is_before, SplitsAt, IsLeastOf, IsFirstFrom, sooner_of}
use Rattle.as_of_index.proofs.Ordered.{places_total, of_one_segment}

module _ (start : Start) where
  get_first : (list : List RowPlace) (i : ℕ) (found : Option RowPlace) → found ≡ slice_get list i → IsAscending place_cmp list → SplitsAt (is_before start) list i → IsFirstFrom start (λ p. p) list found
  unfolding IsFirstFrom
  get_first [] i None e up split = λ x h. absurd h
  get_first [] i (Some b) e up split = absurd (cc)
  get_first (x ∷ xs) zero None e up split = absurd (cc)
  get_first (x ∷ xs) zero (Some b) e up split =
      let same : x ≡ b = cc in
      subst (λ z. IsLeastOf start (λ p. p) (x ∷ xs) z) same (record {
        there = inl refl;
        passes = split.rest.0;
        least = λ z h n less. elim h [
          | inl q ↦ not_below_itself places_total x (subst (λ w. place_cmp w x ≡ Less) (sym q) less)
          | inr t ↦ not_both places_total x z (Has-all (λ w. place_cmp x w ≡ Less) xs z up.0 t) less
        ];
      })
  get_first (x ∷ xs) (suc i) None e up split =
      let r = get_first xs i None e up.1 (record { before = split.before.1; rest = split.rest }) in
      λ z h. elim h [ inl q ↦ subst (λ w. is_before start w ≡ true) q split.before.0 | inr t ↦ r z t ]
  get_first (x ∷ xs) (suc i) (Some b) e up split =
      let r = get_first xs i (Some b) e up.1 (record { before = split.before.1; rest = split.rest }) in
      record {
        there = inr r.there;
        passes = r.passes;
        least = λ z h n less. elim h [
          | inl q ↦ absurd (let yes = subst (λ w. is_before start w ≡ true) q split.before.0 in cc)
          | inr t ↦ r.least z t n less
        ];
      }

  pub next_of_list : (list : List RowPlace) (i : ℕ) (found : Option RowPlace) → IsAscending place_cmp list → SplitsAt (is_before start) list i → found ≡ slice_get list i → IsFirstFrom start (λ p. p) list found
  next_of_list list i found up split e = get_first list i found e up split

  -- ---- several lists

  abbrev pub Nexts : List (ℕ × RowPlace) → Option (ℕ × RowPlace) → Type 0
  Nexts xs best = IsFirstFrom start (λ (x : ℕ × RowPlace). x.1) xs best

  pub next_nothing : Nexts [] None
  unfolding IsFirstFrom
  next_nothing = λ x h. absurd h

  abbrev NotBelow : RowPlace → RowPlace → Type 0
  NotBelow p b = place_cmp p b ≡ Less → ⊥

  new_least : (n : ℕ) (ps : List RowPlace) (xs : List (ℕ × RowPlace)) (p : RowPlace) → ((x : ℕ × RowPlace) → Has xs x → is_before start x.1 ≡ false → NotBelow x.1 p) → IsLeastOf start (λ p. p) ps p → IsLeastOf start (λ (x : ℕ × RowPlace). x.1) (xs ++ in_segment n ps) (n, p)
  new_least n ps xs p others r = record {
    there = Has-append_right xs (in_segment n ps) (n, p) (Has-map_from (λ (q : RowPlace). (n, q)) ps p r.there);
    passes = r.passes;
    least = λ x h c. elim (Has-append_cases xs (in_segment n ps) x h) [
      | inl l ↦ others x l c
      | inr t ↦ (let m = of_one_segment n ps x t in let e = ap (λ (y : ℕ × RowPlace). y.1) m.2 in subst (λ (q : RowPlace). NotBelow q p) (sym e) (r.least m.0 m.1 (subst (λ q. is_before start q ≡ false) e c)))
    ];
  }

  old_least : (n : ℕ) (ps : List RowPlace) (xs : List (ℕ × RowPlace)) (b : ℕ × RowPlace) → IsLeastOf start (λ (x : ℕ × RowPlace). x.1) xs b → ((q : RowPlace) → Has ps q → is_before start q ≡ false → NotBelow q b.1) → IsLeastOf start (λ (x : ℕ × RowPlace). x.1) (xs ++ in_segment n ps) b
  old_least n ps xs b a others = record {
    there = Has-append_left xs (in_segment n ps) b a.there;
    passes = a.passes;
    least = λ x h c. elim (Has-append_cases xs (in_segment n ps) x h) [
      | inl l ↦ a.least x l c
      | inr t ↦ (let m = of_one_segment n ps x t in let e = ap (λ (y : ℕ × RowPlace). y.1) m.2 in subst (λ (q : RowPlace). NotBelow q b.1) (sym e) (others m.0 m.1 (subst (λ q. is_before start q ≡ false) e c)))
    ];
  }

  -- what isn't below p isn't below what p isn't below
  still_above : (q p b : RowPlace) (r : Ordering) → place_cmp p b ≡ r → (r ≡ Less → ⊥) → NotBelow q p → NotBelow q b
  still_above q p b Less e apart h less = apart refl
  still_above q p b Equal e apart h less = h (above places_total p q (places_total.congr p b q e ∙ places_total.antisymm b q ∙ ap ordering_reverse less))
  still_above q p b Greater e apart h less = h (places_total.trans q b p less (above places_total p b e))

  pub next_more : (n : ℕ) (ps : List RowPlace) (xs : List (ℕ × RowPlace)) (best : Option (ℕ × RowPlace)) (found : Option RowPlace) → Nexts xs best → IsFirstFrom start (λ p. p) ps found → Nexts (xs ++ in_segment n ps) (sooner_of best n found)
  unfolding IsFirstFrom
  next_more n ps xs None None a r = λ x h. elim (Has-append_cases xs (in_segment n ps) x h) [
    | inl l ↦ a x l
    | inr t ↦ (let m = of_one_segment n ps x t in subst (λ (y : ℕ × RowPlace). is_before start y.1 ≡ true) (sym m.2) (r m.0 m.1))
  ]
  next_more n ps xs (Some b) None a r = old_least n ps xs b a (λ q h c. absurd (let yes = r q h in cc))
  next_more n ps xs None (Some p) a r = new_least n ps xs p (λ x l c. absurd (let yes = a x l in cc)) r
  next_more n ps xs (Some b) (Some p) a r =
      elim (place_cmp p b.1) as (λ t. place_cmp p b.1 ≡ t → IsFirstFrom start (λ (x : ℕ × RowPlace). x.1) (xs ++ in_segment n ps) (elim t [ Less ↦ Some (n, p) | Equal ↦ Some b | Greater ↦ Some b ])) [
        | Less ↦ λ f. new_least n ps xs p (λ x l c less. a.least x l c (places_total.trans x.1 p b.1 less f)) r
        | Equal ↦ λ f. old_least n ps xs b a (λ q h c. still_above q p b.1 (place_cmp p b.1) refl (λ z. let e : Equal ≡ Less = sym f ∙ z in cc) (r.least q h c))
        | Greater ↦ λ f. old_least n ps xs b a (λ q h c. still_above q p b.1 (place_cmp p b.1) refl (λ z. let e : Greater ≡ Less = sym f ∙ z in cc) (r.least q h c))
      ] refl
