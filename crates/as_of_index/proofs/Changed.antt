-- What lists show at a date and a pin that is later than another date, if that is given, where those
-- that show nothing so are taken as empty.
use Rattle.std.proofs.Common.{◌≡◌, ℕ, ◌+◌, ◌<◌, ◌≤◌, Bool, max, true, false, cond, List, [], ◌∷◌, ◌++◌, length, get_or, take, refl, sym, ap, subst, inl, inr, ◌∙◌, arith}
use Rattle.std.specs.Prelude.{◌&&◌, nat_lt, Option, Some, None}
use Rattle.std.specs.Ordering.{nat_cmp, ord_max, is_lt}
use Rattle.std.specs.Cmp.{ranked}
use Rattle.std.specs.declared.cmp.Ordering.{Ordering}
use Rattle.std.specs.declared.cmp.Ordering.TheVariants.{Less, Equal, Greater}
use Rattle.std.proofs.lemmas.Bool.Decides.{nat_tests}
use Rattle.std.proofs.lemmas.List.{take_more, length-map, get_or-map}
use Rattle.std.proofs.lemmas.Bool.{and_parts}
use Rattle.rf2_values.specs.declared.row.Kind.{Kind}
use Rattle.history_model.specs.InOrder.{Has}
use Rattle.history_model.specs.Queries.{is_above}
use Rattle.history_model.proofs.InOrder.{Has-append_left, Has-append_right, Has-append_cases}
use Rattle.segment.specs.declared.place.RowPlace.{RowPlace}
use Rattle.as_of_index.specs.declared.as_of.AsOf.{AsOf}
use Rattle.as_of_index.specs.Places.{greatest_by}
use Rattle.as_of_index.specs.Private.Search.{in_segment, may_show, may_change, changed_part, changed_parts, is_shown, is_candidate, IsPick, IsPickFrom, later_than, later_of, IsNextId, IsNextChanged, lesser_of}
use Rattle.as_of_index.proofs.Ordered.{of_one_segment}
use Rattle.as_of_index.proofs.Found.{candidate, one_alone, first_stays}
use Rattle.as_of_index.proofs.Shown.{none_there, shown_at}

-- ---- the greatest of a number

max_first : (a : ℕ) → max a 0 ≡ max 0 a
max_first a = omega arith

max_rest : (a b c : ℕ) → max a (max b c) ≡ max (max a b) c
max_rest a b c = omega arith

pub greatest_push : (number : RowPlace → ℕ) (places : List RowPlace) (p : RowPlace) → greatest_by number (places ++ p ∷ []) ≡ max (greatest_by number places) (number p)
greatest_push number [] p = max_first (number p)
greatest_push number (q ∷ places) p = ap (max (number q)) (greatest_push number places p) ∙ max_rest (number q) (greatest_by number places) (number p)

-- what `max` of std gives
pub max_is : (a b : ℕ) → ord_max nat_cmp a b ≡ max a b
max_is a b = by (nat_cmp b a) refl where
  by : (r : Ordering) → nat_cmp b a ≡ r → cond (is_lt (nat_cmp b a)) a b ≡ max a b
  by Less e = let lt : b < a = ranked b a Less (sym e) in rw e (omega arith)
  by Equal e = let same : b ≡ a = ranked b a Equal (sym e) in rw e (omega arith)
  by Greater e = let lt : a < b = ranked b a Greater (sym e) in rw e (omega arith)

-- one place more is looked at
pub greatest_more : (number : RowPlace → ℕ) (places : List RowPlace) (i : ℕ) (p : RowPlace) → i < length places → p ≡ get_or places i p → greatest_by number (take (i + 1) places) ≡ max (greatest_by number (take i places)) (number p)
greatest_more number places i p lt is = ap (greatest_by number) (take_more places i p lt ∙ ap (λ x. take i places ++ x ∷ []) (sym is)) ∙ greatest_push number (take i places) p

at_least_first : (a b : ℕ) → a ≤ max a b
at_least_first a b = omega arith

at_least_rest : (a b c : ℕ) → c ≤ b → c ≤ max a b
at_least_rest a b c le = omega arith

greatest_there : (number : RowPlace → ℕ) (places : List RowPlace) (p : RowPlace) → Has places p → number p ≤ greatest_by number places
greatest_there number [] p h = absurd h
greatest_there number (q ∷ places) p h = elim h [
  | inl s ↦ subst (λ n. n ≤ max (number q) (greatest_by number places)) (ap number s) (at_least_first (number q) (greatest_by number places))
  | inr t ↦ at_least_rest (number q) (greatest_by number places) (number p) (greatest_there number places p t)
]

-- what is later than a time that is later than `from` is so too
pub later_still : (from : Option ℕ) (m n : ℕ) → is_above from m ≡ true → m ≤ n → is_above from n ≡ true
later_still None m n e le = refl
later_still (Some a) m n e le = grind (arith, nat_tests, e, le)

not_later : (a b : Bool) → (a && b) ≡ false → a ≡ true → b ≡ false
not_later true b e f = e
not_later false b e f = absurd (cc)

module _ (from : Option ℕ) (as_of : AsOf) where
  none_changed : (places : List RowPlace) → may_change from as_of places ≡ false → (p : RowPlace) → Has places p → p.key.time ≤ as_of.date → p.import ≤ as_of.pin → is_above from p.key.time ≡ true → ⊥
  none_changed places e p h early shown late =
      elim (may_show as_of places) as (λ t. may_show as_of places ≡ t → ⊥) [
        | true ↦ λ f.
            let no = not_later (may_show as_of places) (is_above from (greatest_by (λ (q : RowPlace). q.key.time) places)) e f in
            let yes = later_still from p.key.time (greatest_by (λ (q : RowPlace). q.key.time) places) late (greatest_there (λ (q : RowPlace). q.key.time) places p h) in
            absurd (cc)
        | false ↦ λ f. none_there as_of places f p h early shown
      ] refl

  parts_len : (lists : List (List RowPlace)) → length (changed_parts from as_of lists) ≡ length lists
  parts_len lists = length-map lists (changed_part from as_of)

  pub part_within : (lists : List (List RowPlace)) (i : ℕ) → i < length lists → i < length (changed_parts from as_of lists)
  part_within lists i lt = let e = parts_len lists in omega arith

  -- the part of one of the lists
  pub part_at : (lists : List (List RowPlace)) (i : ℕ) (places part : List RowPlace) → i < length lists → places ≡ get_or lists i places → part ≡ changed_part from as_of places → part ≡ get_or (changed_parts from as_of lists) i part
  part_at lists i places part lt is e =
      e ∙ ap (changed_part from as_of) is ∙ sym (get_or-map (changed_part from as_of) lists i places part lt)

  -- ---- the latest version

  module _ (kind : Kind) (id : ℕ) where
    later_pick : (places : List RowPlace) (found : Option RowPlace) → IsPick kind id as_of (λ p. p) places found → IsPickFrom kind id from as_of (λ p. p) places (later_than from found)
    unfolding IsPick IsPickFrom
    later_pick places None r = λ x h c late. r x h c
    later_pick places (Some b) r =
        elim (is_above from b.key.time) as (λ t. is_above from b.key.time ≡ t → IsPickFrom kind id from as_of (λ p. p) places (elim t [ true ↦ Some b | false ↦ None ])) [
          | true ↦ λ e. (r, e)
          | false ↦ λ e. λ x h c late. let yes = later_still from x.key.time b.key.time late (r.latest x h c) in absurd (cc)
        ] refl

    pick_of_hidden : (places : List RowPlace) → may_change from as_of places ≡ false → (found : Option RowPlace) → IsPick kind id as_of (λ p. p) [] found → IsPickFrom kind id from as_of (λ p. p) places (later_than from found)
    unfolding IsPick IsPickFrom
    pick_of_hidden places e None r = λ x h c late. let k = candidate kind id as_of x c in none_changed places e x h k.early k.shown late
    pick_of_hidden places e (Some b) r = absurd r.there

    pub pick_from_part : (places : List RowPlace) (found : Option RowPlace) → IsPick kind id as_of (λ p. p) (changed_part from as_of places) found → IsPickFrom kind id from as_of (λ p. p) places (later_than from found)
    pick_from_part places found =
        elim (may_change from as_of places) as (λ t. may_change from as_of places ≡ t → IsPick kind id as_of (λ p. p) (cond t places []) found → IsPickFrom kind id from as_of (λ p. p) places (later_than from found)) [
          | true ↦ λ e r. later_pick places found r
          | false ↦ λ e r. pick_of_hidden places e found r
        ] refl

    abbrev pub PicksFrom : List (ℕ × RowPlace) → Option (ℕ × RowPlace) → Type 0
    PicksFrom xs best = IsPickFrom kind id from as_of (λ (x : ℕ × RowPlace). x.1) xs best

    pub pick_from_nothing : PicksFrom [] None
    unfolding IsPickFrom
    pick_from_nothing = λ x h c late. h

    -- where no candidate is later, each is up to one that is
    up_to_later : (m n : ℕ) → (is_above from m ≡ true → ⊥) → is_above from n ≡ true → m ≤ n
    up_to_later m n none late = elim (nat_lt n m) as (λ t. nat_lt n m ≡ t → m ≤ n) [
      | true ↦ λ f. (let lt : n < m = grind (arith, nat_tests, f) in absurd (none (later_still from n m late (omega arith))))
      | false ↦ λ f. grind (arith, nat_tests, f)
    ] refl

    pub pick_from_more : (n : ℕ) (ps : List RowPlace) (xs : List (ℕ × RowPlace)) (best : Option (ℕ × RowPlace)) (found : Option RowPlace) → PicksFrom xs best → IsPickFrom kind id from as_of (λ p. p) ps found → PicksFrom (xs ++ in_segment n ps) (later_of best n found)
    unfolding IsPickFrom
    pick_from_more n ps xs None None a r = λ x h c late. elim (Has-append_cases xs (in_segment n ps) x h) [
      | inl l ↦ a x l c late
      | inr t ↦ (let m = of_one_segment n ps x t in r m.0 m.1 (subst (λ (y : ℕ × RowPlace). is_candidate kind id as_of y.1 ≡ true) m.2 c) (subst (λ (y : ℕ × RowPlace). is_above from y.1.key.time ≡ true) m.2 late))
    ]
    pick_from_more n ps xs (Some b) None a r = (first_stays kind id as_of n ps xs b a.0 (λ q h c. up_to_later q.key.time b.1.key.time (r q h c) a.1), a.1)
    pick_from_more n ps xs None (Some p) a r = (one_alone kind id as_of n ps xs p (λ x l c. up_to_later x.1.key.time p.key.time (a x l c) r.1) r.0, r.1)
    pick_from_more n ps xs (Some b) (Some p) a r =
        elim (nat_lt b.1.key.time p.key.time) as (λ t. nat_lt b.1.key.time p.key.time ≡ t → IsPickFrom kind id from as_of (λ (x : ℕ × RowPlace). x.1) (xs ++ in_segment n ps) (elim t [ true ↦ Some (n, p) | false ↦ Some b ])) [
          | true ↦ λ f. (one_alone kind id as_of n ps xs p (λ x l c. let le = a.0.latest x l c in let lt : b.1.key.time < p.key.time = grind (arith, nat_tests, f) in omega arith) r.0, r.1)
          | false ↦ λ f. (first_stays kind id as_of n ps xs b a.0 (λ q h c. let le = r.0.latest q h c in let ge : p.key.time ≤ b.1.key.time = grind (arith, nat_tests, f) in omega arith), a.1)
        ] refl

  -- ---- the next id

  module _ (kind : Kind) (after : Option ℕ) where
    abbrev pub NextChanged : List (ℕ × RowPlace) → Option ℕ → Type 0
    NextChanged xs best = IsNextChanged kind after from as_of xs best

    pub changed_nothing : NextChanged [] None
    unfolding IsNextChanged
    changed_nothing = λ x h e s. absurd h

    changed_of_ids : (xs : List (ℕ × RowPlace)) (best : Option ℕ) → IsNextId kind after xs best → NextChanged xs best
    unfolding IsNextId IsNextChanged
    changed_of_ids xs None r = λ x h e s. r x h e
    changed_of_ids xs (Some id) r = record { above = r.above; there = r.there; first = λ x h e s. r.least x h e }

    none_of_hidden : (n : ℕ) (places : List RowPlace) → may_change from as_of places ≡ false → (best : Option ℕ) → IsNextId kind after [] best → NextChanged (in_segment n places) best
    unfolding IsNextId IsNextChanged
    none_of_hidden n places e None r = λ x h k s.
        let m = of_one_segment n places x h in
        let same = ap (λ (y : ℕ × RowPlace). y.1) m.2 in
        let c = and_parts (is_shown as_of x.1) (is_above from x.1.key.time) s in
        let at = shown_at x.1.key.time x.1.import as_of c.0 in
        none_changed places e m.0 m.1 (subst (λ (p : RowPlace). p.key.time ≤ as_of.date) same at.0) (subst (λ (p : RowPlace). p.import ≤ as_of.pin) same at.1) (subst (λ (p : RowPlace). is_above from p.key.time ≡ true) same c.1)
    none_of_hidden n places e (Some id) r = absurd r.there.1

    pub changed_of_part : (n : ℕ) (places : List RowPlace) (best : Option ℕ) → IsNextId kind after (in_segment n (changed_part from as_of places)) best → NextChanged (in_segment n places) best
    changed_of_part n places best =
        elim (may_change from as_of places) as (λ t. may_change from as_of places ≡ t → IsNextId kind after (in_segment n (cond t places [])) best → NextChanged (in_segment n places) best) [
          | true ↦ λ e r. changed_of_ids (in_segment n places) best r
          | false ↦ λ e r. none_of_hidden n places e best r
        ] refl

    pub changed_more : (xs ys : List (ℕ × RowPlace)) (best found : Option ℕ) → NextChanged xs best → NextChanged ys found → NextChanged (xs ++ ys) (lesser_of best found)
    unfolding IsNextChanged
    changed_more xs ys None None a r = λ x h e s. elim (Has-append_cases xs ys x h) [ inl l ↦ a x l e s | inr t ↦ r x t e s ]
    changed_more xs ys (Some b) None a r = record {
      above = a.above;
      there = (a.there.0, Has-append_left xs ys a.there.0 a.there.1, a.there.2);
      first = λ x h e s. elim (Has-append_cases xs ys x h) [ inl l ↦ a.first x l e s | inr t ↦ absurd (r x t e s) ];
    }
    changed_more xs ys None (Some f) a r = record {
      above = r.above;
      there = (r.there.0, Has-append_right xs ys r.there.0 r.there.1, r.there.2);
      first = λ x h e s. elim (Has-append_cases xs ys x h) [ inl l ↦ absurd (a x l e s) | inr t ↦ r.first x t e s ];
    }
    changed_more xs ys (Some b) (Some f) a r =
        elim (nat_lt f b) as (λ t. nat_lt f b ≡ t → IsNextChanged kind after from as_of (xs ++ ys) (elim t [ true ↦ Some f | false ↦ Some b ])) [
          | true ↦ λ e. record {
            above = r.above;
            there = (r.there.0, Has-append_right xs ys r.there.0 r.there.1, r.there.2);
            first = λ x h k s. elim (Has-append_cases xs ys x h) [
              | inl l ↦ (let le = a.first x l k s in let lt : f ≤ b = grind (arith, nat_tests, e) in omega arith)
              | inr t ↦ r.first x t k s
            ];
          }
          | false ↦ λ e. record {
            above = a.above;
            there = (a.there.0, Has-append_left xs ys a.there.0 a.there.1, a.there.2);
            first = λ x h k s. elim (Has-append_cases xs ys x h) [
              | inl l ↦ a.first x l k s
              | inr t ↦ (let le = r.first x t k s in let ge : b ≤ f = grind (arith, nat_tests, e) in omega arith)
            ];
          }
        ] refl
