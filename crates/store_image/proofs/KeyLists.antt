-- Lists of rows, by the keys of their places.
use Rattle.std.proofs.Common.{◌≡◌, List, [], ◌∷◌, map, refl, sym, ap, subst, ◌∙◌}
use Rattle.std.specs.List.{AllByRecursion}
use Rattle.std.specs.declared.cmp.Ordering.TheVariants.{Less}
use Rattle.rf2_values.specs.declared.key.Key.{Key}
use Rattle.rf2_values.specs.Key.{key_of, key_cmp}
use Rattle.history_model.specs.declared.stamped.StampedRow.{StampedRow}
use Rattle.history_model.specs.InOrder.{Has, IsAscending}
use Rattle.history_model.specs.History.{stamped_cmp}
use Rattle.history_model.specs.Lists.{AreLists, EachApart}
use Rattle.history_model.specs.Private.{ShareNoKey}
use Rattle.history_model.proofs.Filtered.{Has-map, Has-map_from}
use Rattle.directory.specs.declared.entry.Entry.{Entry}
use Rattle.segment.specs.Standing.{places_of}
use Rattle.store_image.specs.Kept.{AreSegments}
use Rattle.store_image.specs.Private.Keys.{keys_of, AreDisjoint, EachKeyOnce}
use Rattle.store_image.proofs.RowsRead.{keys_from}

abbrev row_keys : List StampedRow → List Key
row_keys rows = map (λ (s : StampedRow). key_of s.row) rows

key_lists : (lists : List (List StampedRow)) → map keys_of (map places_of lists) ≡ map row_keys lists
key_lists [] = refl
key_lists (rows ∷ lists) = ap (λ k. k ∷ map keys_of (map places_of lists)) (keys_from 0 rows) ∙ ap (λ l. row_keys rows ∷ l) (key_lists lists)

keys_below : (s : StampedRow) (rows : List StampedRow) → AllByRecursion (λ t. stamped_cmp s t ≡ Less) rows → AllByRecursion (λ k. key_cmp (key_of s.row) k ≡ Less) (row_keys rows)
keys_below s [] all = tt
keys_below s (t ∷ rows) all = (all.0, keys_below s rows all.1)

ascends : (rows : List StampedRow) → IsAscending stamped_cmp rows → IsAscending key_cmp (row_keys rows)
ascends [] up = tt
ascends (s ∷ rows) up = (keys_below s rows up.0, ascends rows up.1)

each_ascends : (entries : List Entry) (lists : List (List StampedRow)) → AreSegments entries lists → AllByRecursion (IsAscending key_cmp) (map row_keys lists)
each_ascends entries [] are = tt
each_ascends [] (rows ∷ lists) are = absurd are
each_ascends (entry ∷ entries) (rows ∷ lists) are = (ascends rows are.0.is.ascending, each_ascends entries lists are.1)

each_up : (entries : List Entry) (lists : List (List StampedRow)) → AreSegments entries lists → AllByRecursion (λ rows. IsAscending stamped_cmp rows) lists
each_up entries [] are = tt
each_up [] (rows ∷ lists) are = absurd are
each_up (entry ∷ entries) (rows ∷ lists) are = (are.0.is.ascending, each_up entries lists are.1)

shares_none : (rows others : List StampedRow) → AreDisjoint (row_keys rows) (row_keys others) → ShareNoKey rows others
shares_none rows others apart = λ s t h k same.
    apart (key_of s.row) (Has-map_from (λ (r : StampedRow). key_of r.row) rows s h) (subst (λ (key : Key). Has (row_keys others) key) (sym same) (Has-map_from (λ (r : StampedRow). key_of r.row) others t k))

share_none : (rows : List StampedRow) (lists : List (List StampedRow)) → AllByRecursion (AreDisjoint (row_keys rows)) (map row_keys lists) → AllByRecursion (λ others. ShareNoKey rows others) lists
share_none rows [] all = tt
share_none rows (others ∷ lists) all = (shares_none rows others all.0, share_none rows lists all.1)

apart_from : (lists : List (List StampedRow)) → EachKeyOnce (map row_keys lists) → EachApart lists
apart_from [] once = tt
apart_from (rows ∷ lists) once = (share_none rows lists once.0, apart_from lists once.1)

disjoint : (rows others : List StampedRow) → ShareNoKey rows others → AreDisjoint (row_keys rows) (row_keys others)
disjoint rows others apart = λ key h k.
    let s = Has-map (λ (r : StampedRow). key_of r.row) rows key h in
    let t = Has-map (λ (r : StampedRow). key_of r.row) others key k in
    apart s.0 t.0 s.1 t.1 (s.2 ∙ sym t.2)

all_disjoint : (rows : List StampedRow) (lists : List (List StampedRow)) → AllByRecursion (λ others. ShareNoKey rows others) lists → AllByRecursion (AreDisjoint (row_keys rows)) (map row_keys lists)
all_disjoint rows [] all = tt
all_disjoint rows (others ∷ lists) all = (disjoint rows others all.0, all_disjoint rows lists all.1)

once_from : (lists : List (List StampedRow)) → EachApart lists → EachKeyOnce (map row_keys lists)
once_from [] apart = tt
once_from (rows ∷ lists) apart = (all_disjoint rows lists apart.0, once_from lists apart.1)

-- segments ascend by the keys of their places
pub ascending_keys : (lists : List (List StampedRow)) (entries : List Entry) → AreSegments entries lists → AllByRecursion (IsAscending key_cmp) (map keys_of (map places_of lists))
ascending_keys lists entries are = subst (λ l. AllByRecursion (IsAscending key_cmp) l) (sym (key_lists lists)) (each_ascends entries lists are)

-- and are lists of rows where each key stands once
pub lists_from_once : (lists : List (List StampedRow)) (entries : List Entry) → AreSegments entries lists → EachKeyOnce (map keys_of (map places_of lists)) → AreLists lists
lists_from_once lists entries are once = record { ascending = each_up entries lists are; apart = apart_from lists (subst EachKeyOnce (key_lists lists) once) }

pub once_from_lists : (lists : List (List StampedRow)) → AreLists lists → EachKeyOnce (map keys_of (map places_of lists))
once_from_lists lists are = subst EachKeyOnce (sym (key_lists lists)) (once_from lists are.apart)
