-- Rows in groups by the lengths of their terms.
use Rattle.std.proofs.Common.{◌≡◌, ◌⊎◌, ℕ, zero, suc, ◌+◌, ◌-◌, ◌<◌, true, false, List, [], ◌∷◌, ◌++◌, length, get_or, take, refl, sym, ap, subst, inl, inr, ◌∙◌, arith, append-nil, append_assoc}
use Rattle.std.specs.Prelude.{Option, Some, slice_get}
use Rattle.std.specs.List.Sorted.{IsPermutation}
use Rattle.std.proofs.lemmas.List.{take_more, length-take-le}
use Rattle.std.proofs.lemmas.List.Sorted.{IsPermutation-sym}
use Rattle.std.proofs.lemmas.Option.{same_Some}
use Rattle.word_model.specs.Words.{is_of_type}
use Rattle.history_model.proofs.InOrder.{Has-append_left, Has-append_right, Has-append_cases}
use Rattle.history_model.proofs.Items.{Has-permuted}
use Rattle.term_words.specs.declared.grouping.Group.{Group}
use Rattle.term_words.specs.declared.keys.KeyAt.{KeyAt}
use Rattle.term_words.specs.declared.keys.KeyAt.TheVariants as places
use Rattle.term_words.specs.declared.listing.Entry.{Entry}
use Rattle.term_words.specs.declared.ordered.Split.{Split}
use Rattle.term_words.specs.Posted.{keyed, measure_key}
use Rattle.term_words.specs.Laid.{key_in, postings_in}
use Rattle.term_words.specs.Private.Chains.{AreEntries}
use Rattle.term_words.specs.Private.{all_in, IsSized, IsGroupOf, AddsGroupsOf, AddsGroups, AreGroups}
use Rattle.term_words.proofs.Chained.{HasPosting, posting-of, row-posted}

-- the groups of the first lists
pub groups_none : (wanted_type : Option ℕ) → AreGroups [] wanted_type []
groups_none wanted_type = record { only = λ g rank i h. absurd h; all = λ n len rank i w. absurd (none n w.0 w.1) } where
  none : (n : ℕ) (s : Split) → slice_get [] n ≡ Some s → ⊥
  none n s e = absurd cc

pub get_first : {X : Type 0} (xs ys : List X) (n : ℕ) (x : X) → slice_get xs n ≡ Some x → slice_get (xs ++ ys) n ≡ Some x
get_first [] ys n x e = absurd cc
get_first (z ∷ xs) ys zero x e = e
get_first (z ∷ xs) ys (suc n) x e = get_first xs ys n x e

pub get_last : {X : Type 0} (xs : List X) (y : X) → slice_get (xs ++ y ∷ []) (length xs) ≡ Some y
get_last [] y = refl
get_last (x ∷ xs) y = get_last xs y

-- an item of a list with one more is one of the others, or the last one
pub get_cases : {X : Type 0} (xs : List X) (y : X) (n : ℕ) (x : X) → slice_get (xs ++ y ∷ []) n ≡ Some x → (slice_get xs n ≡ Some x) ⊎ ((n ≡ length xs) × (y ≡ x))
get_cases [] y zero x e = inr (refl, same_Some y x e)
get_cases [] y (suc n) x e = absurd cc
get_cases (z ∷ xs) y zero x e = inl e
get_cases (z ∷ xs) y (suc n) x e = elim (get_cases xs y n x e) [ inl l ↦ inl l | inr r ↦ inr (ap suc r.0, r.1) ]

pub groups_more : (splits : List Split) (s : Split) (wanted_type : Option ℕ) (groups groups' : List Group) → AreGroups splits wanted_type groups → AddsGroups (all_in s.sizes) (length splits) wanted_type groups groups' → AreGroups (splits ++ s ∷ []) wanted_type groups'
groups_more splits s wanted_type groups groups' a adds =
    subst (λ gs. AreGroups (splits ++ s ∷ []) wanted_type gs) (sym adds.groups_are) (record {
      only = λ g rank i h k. elim (Has-append_cases groups adds.more g h) [
        | inl l ↦ (let w = a.only g rank i l k in (w.0, get_first splits (s ∷ []) g.segment w.0 w.1, w.2))
        | inr r ↦ (let w = adds.only g r in (s, ap (slice_get (splits ++ s ∷ [])) w.0 ∙ get_last splits s, w.1 rank i k))
      ];
      all = λ n len rank i w. elim (get_cases splits s n w.0 w.1) [
        | inl l ↦ (let g = a.all n len rank i (w.0, l, w.2) in (g.0, Has-append_left groups adds.more g.0 g.1, g.2, g.3, g.4))
        | inr r ↦ (
            let g = adds.all len rank i (subst (λ (x : Split). IsSized (all_in x.sizes) wanted_type len rank i) (sym r.1) w.2) in
            (g.0, Has-append_right groups adds.more g.0 g.1, (adds.only g.0 g.1).0 ∙ sym r.0, g.2, g.3))
      ];
    })

pub groups_after : (splits : List Split) (i : ℕ) (s d : Split) (wanted_type : Option ℕ) (groups groups' : List Group) → i < length splits → s ≡ get_or splits i d → AreGroups (take i splits) wanted_type groups → AddsGroups (all_in s.sizes) i wanted_type groups groups' → AreGroups (take (i + 1) splits) wanted_type groups'
groups_after splits i s d wanted_type groups groups' lt is a adds =
    let size : length (take i splits) ≡ i = length-take-le i splits (omega arith) in
    subst (λ xs. AreGroups xs wanted_type groups') (ap (λ x. take i splits ++ x ∷ []) is ∙ sym (take_more splits i d lt))
    (groups_more (take i splits) s wanted_type groups groups' a (subst (λ n. AddsGroups (all_in s.sizes) n wanted_type groups groups') (sym size) adds))

-- the order of groups doesn't matter
pub groups_moved : (splits : List Split) (wanted_type : Option ℕ) (groups groups' : List Group) → AreGroups splits wanted_type groups → IsPermutation groups groups' → AreGroups splits wanted_type groups'
groups_moved splits wanted_type groups groups' a moved = record {
  only = λ g rank i h k. a.only g rank i (Has-permuted groups groups' moved g h) k;
  all = λ n len rank i w. (let g = a.all n len rank i w in (g.0, Has-permuted groups' groups (IsPermutation-sym groups groups' moved) g.0 g.1, g.2, g.3, g.4));
}

-- ---- the groups of entries

module _ (rows : List ℕ) (n : ℕ) (wanted_type : Option ℕ) where
  pub no_groups : (groups : List Group) → AddsGroupsOf rows n wanted_type [] groups groups
  no_groups groups = record { more = []; groups_are = sym (append-nil groups); only = λ g h. absurd h; all = λ e len type_id h key of_type. absurd h }

  pub groups_both : (xs ys : List Entry) (groups groups' groups'' : List Group) → AddsGroupsOf rows n wanted_type xs groups groups' → AddsGroupsOf rows n wanted_type ys groups' groups'' → AddsGroupsOf rows n wanted_type (xs ++ ys) groups groups''
  groups_both xs ys groups groups' groups'' a b = record {
    more = a.more ++ b.more;
    groups_are = b.groups_are ∙ ap (λ gs. gs ++ b.more) a.groups_are ∙ append_assoc groups a.more b.more;
    only = λ g h. elim (Has-append_cases a.more b.more g h) [
      | inl l ↦ (let w = a.only g l in (w.0, Has-append_left xs ys w.0 w.1, w.2))
      | inr r ↦ (let w = b.only g r in (w.0, Has-append_right xs ys w.0 w.1, w.2))
    ];
    all = λ e len type_id h key of_type. elim (Has-append_cases xs ys e h) [
      | inl l ↦ (let w = a.all e len type_id l key of_type in (w.0, Has-append_left a.more b.more w.0 w.1, w.2))
      | inr r ↦ (let w = b.all e len type_id r key of_type in (w.0, Has-append_right a.more b.more w.0 w.1, w.2))
    ];
  }

  pub one_group : (e : Entry) (g : Group) (groups groups' : List Group) → IsGroupOf rows n wanted_type e g → groups' ≡ groups ++ g ∷ [] → AddsGroupsOf rows n wanted_type (e ∷ []) groups groups'
  one_group e g groups groups' is are = record {
    more = g ∷ [];
    groups_are = are;
    only = λ h k. elim k [ inl same ↦ (e, inl refl, subst (λ (x : Group). IsGroupOf rows n wanted_type e x) same is) | inr none ↦ absurd none ];
    all = λ d len type_id h key of_type. elim h [ inl same ↦ (g, inl refl, subst (λ (x : Entry). IsGroupOf rows n wanted_type x g) same is) | inr none ↦ absurd none ];
  }

  pub no_group : (e : Entry) (groups : List Group) → ((len type_id : ℕ) → e.key ≡ places.Measure len type_id → is_of_type wanted_type type_id ≡ true → ⊥) → AddsGroupsOf rows n wanted_type (e ∷ []) groups groups
  no_group e groups never = record {
    more = [];
    groups_are = sym (append-nil groups);
    only = λ g h. absurd h;
    all = λ d len type_id h key of_type. elim h [ inl same ↦ absurd (never len type_id (ap (λ (x : Entry). x.key) same ∙ key) of_type) | inr none ↦ absurd none ];
  }

  pub groups_next : (those : List Entry) (i : ℕ) (d e : Entry) (groups groups' groups'' : List Group) → i < length those → e ≡ get_or those i d → AddsGroupsOf rows n wanted_type (take i those) groups groups' → AddsGroupsOf rows n wanted_type (e ∷ []) groups' groups'' → AddsGroupsOf rows n wanted_type (take (i + 1) those) groups groups''
  groups_next those i d e groups groups' groups'' lt is a b =
      subst (λ es. AddsGroupsOf rows n wanted_type es groups groups'') (ap (λ x. take i those ++ x ∷ []) is ∙ sym (take_more those i d lt)) (groups_both (take i those) (e ∷ []) groups groups' groups'' a b)

-- why an entry has no group
pub other_type : (wanted_type : Option ℕ) (key : KeyAt) (len type_id : ℕ) → key ≡ places.Measure len type_id → is_of_type wanted_type type_id ≡ false → (n other : ℕ) → key ≡ places.Measure n other → is_of_type wanted_type other ≡ true → ⊥
other_type wanted_type key len type_id is wrong_type n other own of_type =
    let both = sym is ∙ own in
    let same : type_id ≡ other = cc in
    absurd (let wrong = sym wrong_type ∙ ap (is_of_type wanted_type) same ∙ of_type in cc)

pub no_measure : (wanted_type : Option ℕ) (key : KeyAt) (start count : ℕ) → key ≡ places.Word start count → (n other : ℕ) → key ≡ places.Measure n other → is_of_type wanted_type other ≡ true → ⊥
no_measure wanted_type key start count is n other own of_type = absurd (let both = sym is ∙ own in cc)

measure_from : (text : List ℕ) (k : KeyAt) (len type_id : ℕ) → key_in text k ≡ measure_key len type_id → k ≡ places.Measure len type_id
measure_from text (places.Measure a b) len type_id e =
    let first : a ≡ len = ap (λ (xs : List ℕ). get_or xs 1 0) e in
    let second : b ≡ type_id = ap (λ (xs : List ℕ). get_or xs 2 0) e in
    λ i. places.Measure (first i) (second i)
measure_from text (places.Word start count) len type_id e = absurd (let first : 1 ≡ 0 = ap (λ (xs : List ℕ). get_or xs 0 0) e in omega (arith, first))

same_len : (k : KeyAt) (a b len type_id : ℕ) → k ≡ places.Measure a b → k ≡ places.Measure len type_id → a ≡ len
same_len k a b len type_id e f = let both = sym e ∙ f in cc

pub groups_of_all : (text rows : List ℕ) (entries : List Entry) (n : ℕ) (wanted_type : Option ℕ) (groups groups' : List Group) → AreEntries text entries rows → AddsGroupsOf rows n wanted_type entries groups groups' → AddsGroups (postings_in text entries rows) n wanted_type groups groups'
groups_of_all text rows entries n wanted_type groups groups' are adds = record {
  more = adds.more;
  groups_are = adds.groups_are;
  only = λ g h.
      let w = adds.only g h in
      let e = w.0 in
      let of = w.2 in (
        of.segment_is,
        λ rank i k. (
          of.type_id,
          ap (slice_get (postings_in text entries rows)) (sym k.1 ∙ ap (λ m. m + k.0) of.first_is)
              ∙ row-posted text rows entries e k.0 i are w.1 (ap (λ rs. slice_get rs k.0) (sym of.rows_are) ∙ k.2)
              ∙ ap (λ key. Some (keyed i (key_in text key))) of.key_is,
          of.of_type,
        ),
      );
  all = λ len rank i w.
      let number : 0 + rank ≡ rank = omega arith in
      let p = subst (λ m. HasPosting text rows entries m (keyed i (measure_key len w.0))) number (posting-of text rows 0 entries (length rows) rank (keyed i (measure_key len w.0)) are.chained (omega arith) w.1) in
      let key = measure_from text p.e.key len w.0 p.key_is in
      let g = adds.all p.e len w.0 p.there key w.2 in
      let low = p.low in
      let first = g.2.first_is in (
        g.0,
        g.1,
        same_len p.e.key g.0.len g.2.type_id len w.0 g.2.key_is key,
        (rank - p.e.first, omega (arith, low, first), ap (λ rs. slice_get rs (rank - p.e.first)) g.2.rows_are ∙ p.row_there),
      );
}
