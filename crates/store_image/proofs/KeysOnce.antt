-- Lists in which each key stands once.
use Rattle.std.specs.Prelude.{All}
use Rattle.std.proofs.Common.{◌≡◌, ◌↔◌, inl, inr, false, ℕ, ◌+◌, ◌<◌, List, [], ◌∷◌, ◌++◌, length, get_or, map, drop, refl, sym, ap, subst, ◌∙◌, arith, append_assoc, length-append}
use Rattle.std.specs.BinaryHeap.{IsHeap, IsUpperBound, KeepsHeap}
use Rattle.std.specs.List.{AllByRecursion}
use Rattle.std.specs.List.Sorted.{IsPermutation}
use Rattle.std.specs.Ordering.{is_lt}
use Rattle.std.specs.declared.cmp.Ordering.{Ordering}
use Rattle.std.specs.declared.cmp.Ordering.TheVariants.{Less, Equal, Greater}
use Rattle.std.proofs.lemmas.List.{append-nil, drop_more, get_or-map, length-map, map-append}
use Rattle.std.proofs.lemmas.List.Elements.{All-cons, All-head, All-tail, recursion_from_All}
use Rattle.std.proofs.lemmas.List.Sorted.{All-permutation, IsPermutation-append_left, IsPermutation-map, IsPermutation-middle, IsPermutation-sym, sum_by_pushed, sum_by_popped}
use Rattle.list_lemmas.proofs.Each.{each_of_pushed}
use Rattle.rf2_values.specs.declared.key.Key.{Key}
use Rattle.rf2_values.specs.Key.{key_cmp}
use Rattle.rf2_values.specs.Private.{keys_total}
use Rattle.history_model.specs.InOrder.{Has, IsAscending}
use Rattle.history_model.proofs.InOrder.{Has-all, all_from_has, Has-append_cases, Has-append_right, above}
use Rattle.history_model.proofs.Keys.{same_key}
use Rattle.history_model.specs.declared.stamped.StampedRow.{StampedRow}
use Rattle.segment.specs.declared.place.RowPlace.{RowPlace}
use Rattle.segment.specs.Standing.{places_of}
use Rattle.store_image.specs.declared.apart.Rest.{Rest}
use Rattle.store_image.specs.Private.Keys.{keys_of, AreDisjoint, EachKeyOnce, keys_in, keys_left, first_cmp, AreOpen, Opens, IsBehind}
use Rattle.store_image.proofs.AnyOrder.{once_permuted}

-- ---- lists of places

pub no_keys : (places : List RowPlace) → length places ≡ 0 → keys_of places ≡ []
no_keys [] none = refl
no_keys (p ∷ places) none = absurd (omega (arith, none))

ascends_behind : (before left : List Key) → IsAscending key_cmp (before ++ left) → IsAscending key_cmp left
ascends_behind [] left up = up
ascends_behind (k ∷ before) left up = ascends_behind before left up.1

-- ---- places that are skipped

pub one_skipped : (key : Key) (places left behind : List RowPlace) (first : RowPlace) → IsBehind key places left → left ≡ first ∷ behind → key_cmp first.key key ≡ Less → IsBehind key places behind
one_skipped key places left behind first is left_is less = record {
  before = is.before ++ first ∷ [];
  whole = is.whole ∙ ap (λ l. is.before ++ l) left_is ∙ sym (append_assoc is.before (first ∷ []) behind);
  below = each_of_pushed (λ (p : RowPlace). key_cmp p.key key ≡ Less) is.before first is.below less;
}

pub fewer_left : (key : Key) (places left : List RowPlace) → IsBehind key places left → length left < length places + 1
fewer_left key places left is =
    let whole = ap length is.whole in
    omega (arith, whole, length-append is.before left)

-- ---- what putting a list in leaves

module _ (rests new : List Rest) (rest : Rest) (moved : IsPermutation (rest ∷ rests) new) where
  lists_moved : IsPermutation (keys_in rest ∷ map keys_in rests) (map keys_in new)
  lists_moved = IsPermutation-map keys_in (rest ∷ rests) new moved

  later_moved : (later : List (List Key)) → IsPermutation ((keys_in rest ∷ map keys_in rests) ++ later) (map keys_in new ++ later)
  later_moved later = IsPermutation-append_left later (keys_in rest ∷ map keys_in rests) (map keys_in new) lists_moved

  pub opens_put : (keys : List Key) → keys ≡ keys_in rest → Opens (map keys_in rests) (map keys_in new) keys
  opens_put keys keys_are =
      subst (λ (k : List Key). Opens (map keys_in rests) (map keys_in new) k) (sym keys_are) (λ later.
      let front = map keys_in rests in
      let middle = IsPermutation-middle front (keys_in rest) later in (
        λ once. once_permuted (keys_in rest ∷ (front ++ later)) (front ++ keys_in rest ∷ later) (IsPermutation-sym (front ++ keys_in rest ∷ later) (keys_in rest ∷ (front ++ later)) middle)
            (once_permuted (map keys_in new ++ later) ((keys_in rest ∷ front) ++ later) (IsPermutation-sym ((keys_in rest ∷ front) ++ later) (map keys_in new ++ later) (later_moved later)) once),
        λ once. once_permuted ((keys_in rest ∷ front) ++ later) (map keys_in new ++ later) (later_moved later)
            (once_permuted (front ++ keys_in rest ∷ later) (keys_in rest ∷ (front ++ later)) middle once),
      ))

  pub open_still : AreOpen rests → IsAscending key_cmp (keys_in rest) → KeepsHeap first_cmp rests new → AreOpen new
  open_still opened up keeps = record {
    heap = keeps opened.heap;
    each = All-permutation (λ r. IsAscending key_cmp (keys_in r)) (rest ∷ rests) new moved (All-cons (λ r. IsAscending key_cmp (keys_in r)) rest rests up opened.each);
  }

  pub left_put : (places : List RowPlace) → length places ≡ length (keys_in rest) → keys_left new ≡ keys_left rests + length places
  left_put places long = let s = sum_by_pushed (λ r. length (keys_in r)) rest rests new moved in omega (arith, s, long)

all_of : {X : Type 0} (P : X → Type 0) (xs : List X) → ((x : X) → P x) → AllByRecursion P xs
all_of P [] each = tt
all_of P (x ∷ xs) each = (each x, all_of P xs each)

-- a list of no keys, at any place
pub opens_none : (lists : List (List Key)) (keys : List Key) → keys ≡ [] → Opens lists lists keys
opens_none lists keys none =
    subst (λ (k : List Key). Opens lists lists k) (sym none) (λ later.
    let middle = IsPermutation-middle lists [] later in (
      λ once. once_permuted ([] ∷ (lists ++ later)) (lists ++ [] ∷ later) (IsPermutation-sym (lists ++ [] ∷ later) ([] ∷ (lists ++ later)) middle) (all_of (AreDisjoint []) (lists ++ later) (λ ks key h. absurd h), once),
      λ once. (once_permuted (lists ++ [] ∷ later) ([] ∷ (lists ++ later)) middle once).1,
    ))

-- ---- one round: the list with the least first key was taken out

-- keys that no other list has may go
front_goes : (gone kept : List Key) (lists : List (List Key)) → ((k : Key) → Has gone k → AllByRecursion (λ ks. Has ks k → ⊥) lists) → EachKeyOnce ((gone ++ kept) ∷ lists) ↔ EachKeyOnce (kept ∷ lists)
front_goes gone kept lists alone = (
  λ once. (all_from_has (AreDisjoint kept) lists (λ ks h. λ k in_kept in_ks. Has-all (AreDisjoint (gone ++ kept)) lists ks once.0 h k (Has-append_right gone kept k in_kept) in_ks), once.1),
  λ once. (
    all_from_has (AreDisjoint (gone ++ kept)) lists (λ ks h. λ k in_all in_ks. elim (Has-append_cases gone kept k in_all) [
      | inl in_gone ↦ Has-all (λ l. Has l k → ⊥) lists ks (alone k in_gone) h in_ks
      | inr in_kept ↦ Has-all (AreDisjoint kept) lists ks once.0 h k in_kept in_ks
    ]),
    once.1,
  ),
)

not_less : (r : Ordering) → is_lt r ≡ false → r ≡ Less → ⊥
not_less r not less = let e = ap is_lt less in absurd cc

-- a key below a first key that is the least is in no list
not_in : (rests : List Rest) (next : Rest) (k : Key) → All (λ r. IsAscending key_cmp (keys_in r)) rests → IsUpperBound first_cmp next rests → key_cmp k next.first ≡ Less → AllByRecursion (λ ks. Has ks k → ⊥) (map keys_in rests)
not_in rests next k each bound less = over rests (recursion_from_All (λ r. IsAscending key_cmp (keys_in r)) rests each) bound
  where
    here : (r : Rest) → IsAscending key_cmp (keys_in r) → is_lt (first_cmp next r) ≡ false → Has (keys_in r) k → ⊥
    here r up not h = elim h [
      | inl e ↦ not_less (key_cmp r.first next.first) not (subst (λ (j : Key). key_cmp j next.first ≡ Less) (sym e) less)
      | inr t ↦ not_less (key_cmp r.first next.first) not (keys_total.trans r.first k next.first (Has-all (λ y. key_cmp r.first y ≡ Less) (keys_of r.places.now) k up.0 t) less)
    ]

    over : (rs : List Rest) → AllByRecursion (λ r. IsAscending key_cmp (keys_in r)) rs → IsUpperBound first_cmp next rs → AllByRecursion (λ ks. Has ks k → ⊥) (map keys_in rs)
    over [] ups bounds = tt
    over (r ∷ rs) ups bounds = (here r ups.0 bounds.0, over rs ups.1 bounds.1)

-- the least of two first keys, where it isn't below, is the other one
same_first : (a b : Key) → is_lt (key_cmp b a) ≡ false → (key_cmp a b ≡ Less → ⊥) → a ≡ b
same_first a b not over = by (key_cmp a b) refl
  where
    by : (r : Ordering) → key_cmp a b ≡ r → a ≡ b
    by Less e = absurd (over e)
    by Equal e = same_key a b e
    by Greater e = absurd (not_less (key_cmp b a) not (above keys_total a b e))

module _ (old rests : List Rest) (rest : Rest) (moved : IsPermutation old (rest ∷ rests)) (opened : AreOpen old) (ordered : IsHeap first_cmp old → IsHeap first_cmp rests × IsUpperBound first_cmp rest old) where
  all_ascend : All (λ r. IsAscending key_cmp (keys_in r)) (rest ∷ rests)
  all_ascend = All-permutation (λ r. IsAscending key_cmp (keys_in r)) old (rest ∷ rests) moved opened.each

  pub round_open : AreOpen rests
  round_open = record { heap = (ordered opened.heap).0; each = All-tail (λ r. IsAscending key_cmp (keys_in r)) rest rests all_ascend }

  pub round_ascends : (key : Key) (left : List RowPlace) → IsBehind key rest.places.now left → IsAscending key_cmp (keys_of left)
  round_ascends key left is =
      let up = All-head (λ r. IsAscending key_cmp (keys_in r)) rest rests all_ascend in
      ascends_behind (keys_of is.before) (keys_of left) (subst (λ (k : List Key). IsAscending key_cmp k) (ap keys_of is.whole ∙ map-append (λ (p : RowPlace). p.key) is.before left) up.1)

  taken_out : EachKeyOnce (map keys_in old) ↔ EachKeyOnce (keys_in rest ∷ map keys_in rests)
  taken_out =
      let lists = IsPermutation-map keys_in old (rest ∷ rests) moved in (
        λ once. once_permuted (map keys_in old) (keys_in rest ∷ map keys_in rests) lists once,
        λ once. once_permuted (keys_in rest ∷ map keys_in rests) (map keys_in old) (IsPermutation-sym (map keys_in old) (keys_in rest ∷ map keys_in rests) lists) once,
      )

  module _ (next : Rest) (some : 0 < length rests) (next_is : next ≡ get_or rests 0 next) (bound : IsUpperBound first_cmp rest rests) where
    -- the first key of another list isn't above
    pub round_ties : (key_cmp rest.first next.first ≡ Less → ⊥) → EachKeyOnce (map keys_in old) → ⊥
    round_ties not once = at_front rests some next_is bound (taken_out.0 once)
      where
        at_front : (rs : List Rest) → 0 < length rs → next ≡ get_or rs 0 next → IsUpperBound first_cmp rest rs → EachKeyOnce (keys_in rest ∷ map keys_in rs) → ⊥
        at_front [] some is bounds once = absurd (omega (arith, some))
        at_front (r ∷ rs) some is bounds once =
            let same = same_first rest.first r.first bounds.0 (λ less. not (subst (λ (n : Rest). key_cmp rest.first n.first ≡ Less) (sym is) less)) in
            once.0.0 rest.first (inl refl) (inl (sym same))

  -- what is below all others goes
  module _ (next : Rest) (least : IsUpperBound first_cmp next rests) (less : key_cmp rest.first next.first ≡ Less) (left : List RowPlace) (is : IsBehind next.first rest.places.now left) where
    keys_whole : keys_in rest ≡ (rest.first ∷ keys_of is.before) ++ keys_of left
    keys_whole = ap (λ l. rest.first ∷ l) (ap keys_of is.whole ∙ map-append (λ (p : RowPlace). p.key) is.before left)

    below : (places : List RowPlace) → AllByRecursion (λ (p : RowPlace). key_cmp p.key next.first ≡ Less) places → AllByRecursion (λ (k : Key). key_cmp k next.first ≡ Less) (keys_of places)
    below [] all = tt
    below (p ∷ places) all = (all.0, below places all.1)

    goes : EachKeyOnce (map keys_in old) ↔ EachKeyOnce (keys_of left ∷ map keys_in rests)
    goes =
        let low : AllByRecursion (λ (k : Key). key_cmp k next.first ≡ Less) (rest.first ∷ keys_of is.before) = (less, below is.before is.below) in
        let front = front_goes (rest.first ∷ keys_of is.before) (keys_of left) (map keys_in rests) (λ k h. not_in rests next k round_open.each least (Has-all (λ (j : Key). key_cmp j next.first ≡ Less) (rest.first ∷ keys_of is.before) k low h)) in
        let whole = subst (λ (l : List Key). EachKeyOnce (map keys_in old) ↔ EachKeyOnce (l ∷ map keys_in rests)) keys_whole taken_out in
        (λ once. front.0 (whole.0 once), λ once. whole.1 (front.1 once))

    pub round_tells : (new : List Rest) (lists : List (List Key)) → Opens (map keys_in rests) (map keys_in new) (keys_of left) → (EachKeyOnce (map keys_in old) ↔ EachKeyOnce lists) → EachKeyOnce (map keys_in new) ↔ EachKeyOnce lists
    round_tells new lists opens tells =
        let none : map keys_in new ++ [] ≡ map keys_in new = append-nil (map keys_in new) in
        let front = IsPermutation-middle (map keys_in rests) (keys_of left) [] in
        let short : map keys_in rests ++ [] ≡ map keys_in rests = append-nil (map keys_in rests) in
        let put = map keys_in rests ++ keys_of left ∷ [] in
        let at_front = keys_of left ∷ (map keys_in rests ++ []) in
        let Once = λ (l : List (List Key)). EachKeyOnce l in
        let Front = λ (l : List (List Key)). EachKeyOnce (keys_of left ∷ l) in (
          λ once. tells.0 (goes.1 (subst Front short (once_permuted put at_front front ((opens []).0 (subst Once (sym none) once))))),
          λ once. subst Once none ((opens []).1 (once_permuted at_front put (IsPermutation-sym put at_front front) (subst Front (sym short) (goes.0 (tells.1 once))))),
        )

  pub round_shrinks : (new : List Rest) (key : Key) (left : List RowPlace) → IsBehind key rest.places.now left → keys_left new ≡ keys_left rests + length left → keys_left new < keys_left old
  round_shrinks new key left is put =
      let popped = sum_by_popped (λ r. length (keys_in r)) rest old rests moved in
      let fewer = fewer_left key rest.places.now left is in
      omega (arith, put, popped, fewer, length-map rest.places.now (λ (p : RowPlace). p.key))

-- ---- the lists one after the other

module _ (lists : List (List Key)) (i : ℕ) (d : List Key) (rests new : List Rest) (lt : i < length lists) (tells : EachKeyOnce (map keys_in rests ++ drop i lists) ↔ EachKeyOnce lists) where
  here : drop i lists ≡ get_or lists i d ∷ drop (i + 1) lists
  here = drop_more lists i d lt

  pub list_opens : Opens (map keys_in rests) (map keys_in new) (get_or lists i d) → EachKeyOnce (map keys_in new ++ drop (i + 1) lists) ↔ EachKeyOnce lists
  list_opens opens =
      let Once = λ (l : List (List Key)). EachKeyOnce (map keys_in rests ++ l) in (
        λ once. tells.0 (subst Once (sym here) ((opens (drop (i + 1) lists)).0 once)),
        λ once. (opens (drop (i + 1) lists)).1 (subst Once here (tells.1 once)),
      )

-- the keys of one of the lists
module _ {X : Type 0} (rows_in : X → List StampedRow) (xs : List X) (i : ℕ) (x : X) (places : List RowPlace) (lt : i < length xs) (is : x ≡ get_or xs i x) (places_are : places ≡ places_of (rows_in x)) where
  pub as_many_lists : i < length (map keys_of (map places_of (map rows_in xs)))
  as_many_lists = omega (arith, lt, length-map (map places_of (map rows_in xs)) keys_of, length-map (map rows_in xs) places_of, length-map xs rows_in)

  pub list_keys : get_or (map keys_of (map places_of (map rows_in xs))) i [] ≡ keys_of places
  list_keys =
      get_or-map keys_of (map places_of (map rows_in xs)) i places [] (omega (arith, lt, length-map (map rows_in xs) places_of, length-map xs rows_in))
      ∙ ap keys_of (get_or-map places_of (map rows_in xs) i (rows_in x) places (omega (arith, lt, length-map xs rows_in))
      ∙ ap places_of (get_or-map rows_in xs i x (rows_in x) lt ∙ ap rows_in (sym is)) ∙ sym places_are)
