-- What a store keeps of its lists, and that it stays where a list is added or one is put in the place of two.
use Rattle.std.proofs.Common.{◌≡◌, ℕ, zero, suc, ◌+◌, List, [], ◌∷◌, ◌++◌, map, refl, sym, ap, subst, inl, ◌∙◌}
use Rattle.std.specs.Prelude.{slice_set, remove}
use Rattle.std.specs.List.{AllByRecursion}
use Rattle.std.specs.declared.cmp.Ordering.TheVariants.{Less}
use Rattle.std.proofs.lemmas.List.{map_push, map-set}
use Rattle.rf2_values.specs.declared.key.Key.{Key}
use Rattle.rf2_values.specs.Key.{key_of, key_cmp}
use Rattle.history_model.specs.declared.stamped.StampedRow.{StampedRow}
use Rattle.history_model.specs.InOrder.{IsAscending}
use Rattle.history_model.specs.History.{stamped_cmp}
use Rattle.history_model.specs.Lists.{EachApart as RowsApart}
use Rattle.history_model.specs.Private.{ShareNoKey as RowsShareNoKey}
use Rattle.history_model.proofs.InOrder.{Has-all, all_from_has}
use Rattle.history_model.proofs.Filtered.{Has-map}
use Rattle.segment.specs.Standing.{record_len}
use Rattle.segment.specs.declared.place.RowPlace.{RowPlace}
use Rattle.segment.specs.Standing.{row_place, with_places, places_of}
use Rattle.as_of_index.specs.Places.{place_cmp, EachApart, PlacesOfLists, ListsMore, ListsMerged}
use Rattle.as_of_index.specs.Private.Search.{ShareNoKey}
use Rattle.segment.proofs.Posting.{says, row_there}

-- ---- the places of lists are places

ascending_places : (at : ℕ) (rows : List StampedRow) → IsAscending stamped_cmp rows → IsAscending place_cmp (map (λ (x : StampedRow × RowPlace). x.1) (with_places at rows))
ascending_places at [] up = tt
ascending_places at (r ∷ rows) up = (
  all_from_has (λ q. place_cmp (row_place r at) q ≡ Less) (map (λ (x : StampedRow × RowPlace). x.1) (with_places (at + record_len r) rows)) (λ q h.
      let m = Has-map (λ (x : StampedRow × RowPlace). x.1) (with_places (at + record_len r) rows) q h in
      let less = Has-all (λ t. stamped_cmp r t ≡ Less) rows m.0.0 up.0 (row_there (at + record_len r) rows m.0 m.1) in
      let here = says at (r ∷ rows) (r, row_place r at) (inl refl) in
      let there = says (at + record_len r) rows m.0 m.1 in
      subst (λ (k : Key). key_cmp k q.key ≡ Less) (sym here.key_is) (subst (λ (k : Key). key_cmp (key_of r.row) k ≡ Less) (sym there.key_is ∙ ap (λ (p : RowPlace). p.key) m.2) less)),
  ascending_places (at + record_len r) rows up.1,
)

places_apart : (rows others : List StampedRow) → RowsShareNoKey rows others → ShareNoKey (places_of rows) (places_of others)
places_apart rows others apart = λ p q h k e.
    let a = Has-map (λ (x : StampedRow × RowPlace). x.1) (with_places 0 rows) p h in
    let b = Has-map (λ (x : StampedRow × RowPlace). x.1) (with_places 0 others) q k in
    let s = says 0 rows a.0 a.1 in
    let t = says 0 others b.0 b.1 in
    apart a.0.0 b.0.0 (row_there 0 rows a.0 a.1) (row_there 0 others b.0 b.1)
    (sym s.key_is ∙ ap (λ (x : RowPlace). x.key) a.2 ∙ e ∙ ap (λ (x : RowPlace). x.key) (sym b.2) ∙ t.key_is)

ascending_each : (lists : List (List StampedRow)) → AllByRecursion (λ rows. IsAscending stamped_cmp rows) lists → AllByRecursion (λ places. IsAscending place_cmp places) (map places_of lists)
ascending_each [] a = tt
ascending_each (rows ∷ lists) a = (ascending_places 0 rows a.0, ascending_each lists a.1)

apart_each : (rows : List StampedRow) (lists : List (List StampedRow)) → AllByRecursion (λ others. RowsShareNoKey rows others) lists → AllByRecursion (λ others. ShareNoKey (places_of rows) others) (map places_of lists)
apart_each rows [] a = tt
apart_each rows (others ∷ lists) a = (places_apart rows others a.0, apart_each rows lists a.1)

all_apart : (lists : List (List StampedRow)) → RowsApart lists → EachApart (map places_of lists)
all_apart [] a = tt
all_apart (rows ∷ lists) a = (apart_each rows lists a.0, all_apart lists a.1)

pub places_of_lists : PlacesOfLists
places_of_lists lists a = record { ascending = ascending_each lists a.ascending; apart = all_apart lists a.apart }

-- ---- lists that change

map-remove : {X Y : Type 0} (f : X → Y) (xs : List X) (i : ℕ) → map f (remove xs i) ≡ remove (map f xs) i
map-remove f [] zero = refl
map-remove f [] (suc i) = refl
map-remove f (y ∷ ys) zero = refl
map-remove f (y ∷ ys) (suc i) = ap (λ zs. f y ∷ zs) (map-remove f ys i)

pub lists_more : ListsMore
lists_more index lists rows is = ap (λ ls. ls ++ places_of rows ∷ []) is ∙ sym (map_push places_of lists rows)

pub lists_merged : ListsMerged
lists_merged index lists i j rows is =
    ap (λ ls. remove (slice_set ls i (places_of rows)) j) is
    ∙ ap (λ ls. remove ls j) (sym (map-set places_of lists i rows))
    ∙ sym (map-remove places_of (slice_set lists i rows) j)
