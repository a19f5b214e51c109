-- Entries read one behind the other.
use Rattle.std.proofs.Common.{◌≡◌, ℕ, ◌+◌, ◌*◌, ◌<◌, ◌≤◌, List, [], ◌∷◌, ◌++◌, length, Bool, true, false, cond, ◌||◌, inl, inr, Option, Some, None, refl, sym, ap, subst, ◌∙◌, append_assoc, length-append, arith}
use Rattle.std.specs.Option.{is_some}
use Rattle.std.specs.List.{AllByRecursion, flat_map, find, list_any}
use Rattle.std.proofs.lemmas.List.{flat_map_more, append-nil, map-append}
use Rattle.std.proofs.lemmas.Bool.{cases_Bool, both_ways}
use Rattle.list_lemmas.proofs.Each.{each_of_pushed, each_at_middle}
use Rattle.blocks.specs.Extents.{block_count}
use Rattle.blocks.specs.declared.extent.Extent.{Extent}
use Rattle.directory.specs.declared.entry.Entry.{Entry}
use Rattle.directory.specs.Places.{AreBeside, AreApart, extent_of, extents_of, taken}
use Rattle.directory.specs.Listings.{IsEntry}
use Rattle.directory.specs.Content.{entry_bytes}
use Rattle.directory.specs.Fit.{meets}
use Rattle.directory.specs.Private.{IsTable}
use Rattle.directory.proofs.Spelled.{entries_before, entry_length, one_entry}
use Rattle.directory.proofs.Fitting.{all_shared_none, none_met, beside_from_none, none_from_beside, none_where_not_found}

pub AreApart-push : (extents : List Extent) (extent : Extent) → AreApart extents → AllByRecursion (AreBeside extent) extents → AreApart (extents ++ extent ∷ [])
AreApart-push [] extent apart beside = (tt, tt)
AreApart-push (other ∷ extents) extent apart beside = (each_of_pushed (AreBeside other) extents extent apart.0 (λ block in_other in_this. beside.0 block in_this in_other), AreApart-push extents extent apart.1 beside.1)

-- each one is beside those before it
pub beside_before : (extents : List Extent) (extent : Extent) (others : List Extent) → AreApart (extents ++ extent ∷ others) → AllByRecursion (AreBeside extent) extents
beside_before [] extent others apart = tt
beside_before (other ∷ extents) extent others apart = ((λ block in_this in_other. each_at_middle (AreBeside other) extents extent others apart.0 block in_other in_this), beside_before extents extent others apart.1)

pub apart_with : (entries : List Entry) (entry : Entry) → AreApart (extents_of entries) → AllByRecursion (AreBeside (extent_of entry)) (extents_of entries) → AreApart (extents_of (entries ++ entry ∷ []))
apart_with entries entry apart beside = subst AreApart (sym (map-append extent_of entries (entry ∷ []))) (AreApart-push (extents_of entries) (extent_of entry) apart beside)

-- an entry that meets none of these shares no block with them
pub beside_from_not_found : (entries : List Entry) (entry : Entry) → find (meets entry.first (block_count (extent_of entry))) (taken entries None) ≡ None → AllByRecursion (AreBeside (extent_of entry)) (extents_of entries)
beside_from_not_found entries entry none =
    subst (AllByRecursion (AreBeside (extent_of entry))) (append-nil (extents_of entries))
    (beside_from_none (extent_of entry) (taken entries None) (all_shared_none entry.first (block_count (extent_of entry)) (taken entries None) (none_where_not_found (meets entry.first (block_count (extent_of entry))) (taken entries None) none)))

not_found_from_none : {X : Type 0} (p : X → Bool) (xs : List X) → list_any p xs ≡ false → find p xs ≡ None
not_found_from_none p [] none = refl
not_found_from_none {X} p (x ∷ xs) none = elim (cases_Bool (p x)) [
  | inl pass ↦ absurd (both_ways true (sym (ap (λ b. b || list_any p xs) pass) ∙ none) refl)
  | inr fail ↦ ap (λ b. cond b (Some x) (find p xs)) fail ∙ not_found_from_none p xs (sym (ap (λ b. b || list_any p xs) fail) ∙ none)
]

pub not_found_from_beside : (entries : List Entry) (entry : Entry) → AllByRecursion (AreBeside (extent_of entry)) (extents_of entries) → find (meets entry.first (block_count (extent_of entry))) (taken entries None) ≡ None
not_found_from_beside entries entry beside =
    let all : AllByRecursion (AreBeside (extent_of entry)) (taken entries None) = subst (AllByRecursion (AreBeside (extent_of entry))) (sym (append-nil (extents_of entries))) beside in
    not_found_from_none (meets entry.first (block_count (extent_of entry))) (taken entries None) (none_met entry.first (block_count (extent_of entry)) (taken entries None) (none_from_beside (extent_of entry) (taken entries None) all))

-- so many entries are read, and these bytes are left
pub record HasRead (bytes : List ℕ) (count done : ℕ) (entries : List Entry) (rest : List ℕ) : Type 0 where
  pub bytes_are : bytes ≡ flat_map entry_bytes entries ++ rest
  pub done_is : length entries ≡ done
  pub enough : 16 * count ≤ length rest + 16 * done
  pub each : AllByRecursion IsEntry entries
  pub apart : AreApart (extents_of entries)

pub none_read : (bytes : List ℕ) (count : ℕ) → 16 * count ≤ length bytes → HasRead bytes count 0 [] bytes
none_read bytes count enough = record { bytes_are = refl; done_is = refl; enough = omega (arith, enough); each = tt; apart = tt }

pub next_read : (bytes : List ℕ) (count done : ℕ) (entries : List Entry) (rest behind : List ℕ) (entry : Entry) → HasRead bytes count done entries rest → rest ≡ entry_bytes entry ++ behind → IsEntry entry
    → find (meets entry.first (block_count (extent_of entry))) (taken entries None) ≡ None → HasRead bytes count (done + 1) (entries ++ entry ∷ []) behind
next_read bytes count done entries rest behind entry read e is none = record {
  bytes_are = read.bytes_are ∙ ap (λ (l : List ℕ). flat_map entry_bytes entries ++ l) e ∙ sym (append_assoc (flat_map entry_bytes entries) (entry_bytes entry) behind) ∙ ap (λ (l : List ℕ). l ++ behind) (flat_map_more entry_bytes [] entries entry);
  done_is = length-append entries (entry ∷ []) ∙ ap (λ n. n + 1) read.done_is;
  enough = omega (arith, read.enough, ap length e, length-append (entry_bytes entry) behind, entry_length entry);
  each = each_of_pushed IsEntry entries entry read.each is;
  apart = apart_with entries entry read.apart (beside_from_not_found entries entry none);
}

-- the entry that comes next in a table of which these were read
pub record IsNextOf (entries : List Entry) (rest : List ℕ) : Type 0 where
  pub entry : Entry
  pub behind : List ℕ
  pub rest_is : rest ≡ entry_bytes entry ++ behind
  pub is : IsEntry entry
  pub beside : AllByRecursion (AreBeside (extent_of entry)) (extents_of entries)

next_among : (entries others table : List Entry) (rest last : List ℕ) → length entries < length table → table ≡ entries ++ others → rest ≡ flat_map entry_bytes others ++ last → AllByRecursion IsEntry table → AreApart (extents_of table) → IsNextOf entries rest
next_among entries [] table rest last few e f each apart = absurd (omega (arith, few, ap length e, length-append entries []))
next_among entries (entry ∷ others) table rest last few e f each apart = record {
  entry = entry;
  behind = flat_map entry_bytes others ++ last;
  rest_is = f ∙ append_assoc (entry_bytes entry) (flat_map entry_bytes others) last;
  is = each_at_middle IsEntry entries entry others (subst (AllByRecursion IsEntry) e each);
  beside = beside_before (extents_of entries) (extent_of entry) (extents_of others) (subst AreApart (ap extents_of e ∙ map-append extent_of entries (entry ∷ others)) apart);
}

pub next_of_table : (bytes : List ℕ) (count done : ℕ) (entries table : List Entry) (rest : List ℕ) → HasRead bytes count done entries rest → done < count → IsTable bytes count table → IsNextOf entries rest
next_of_table bytes count done entries table rest read few is =
    let after = entries_before entries table rest is.rest read.each is.each (omega (arith, read.done_is, is.count_is, few)) (sym read.bytes_are ∙ is.bytes_are) in
    next_among entries after.0 table rest is.rest (omega (arith, read.done_is, is.count_is, few)) after.1 after.2 is.each is.apart

pub no_table_without_next : (bytes : List ℕ) (count done : ℕ) (entries table : List Entry) (rest : List ℕ) → HasRead bytes count done entries rest → done < count → ((entry : Entry) (behind : List ℕ) → IsEntry entry → rest ≡ entry_bytes entry ++ behind → ⊥) → IsTable bytes count table → ⊥
no_table_without_next bytes count done entries table rest read few none is = let after = next_of_table bytes count done entries table rest read few is in none after.entry after.behind after.is after.rest_is

pub no_table_with_overlap : (bytes : List ℕ) (count done : ℕ) (entries table : List Entry) (rest behind : List ℕ) (entry : Entry) → HasRead bytes count done entries rest → done < count → rest ≡ entry_bytes entry ++ behind → IsEntry entry
    → is_some (find (meets entry.first (block_count (extent_of entry))) (taken entries None)) ≡ true → IsTable bytes count table → ⊥
no_table_with_overlap bytes count done entries table rest behind entry read few e is_entry met is =
    let after = next_of_table bytes count done entries table rest read few is in
    let same = (one_entry after.entry entry after.behind behind after.is is_entry (sym after.rest_is ∙ e)).0 in
    let none = not_found_from_beside entries entry (subst (λ (x : Entry). AllByRecursion (AreBeside (extent_of x)) (extents_of entries)) same after.beside) in
    both_ways true (sym met ∙ ap is_some none) refl

pub table_read : (bytes : List ℕ) (count : ℕ) (entries : List Entry) (rest : List ℕ) → HasRead bytes count count entries rest → IsTable bytes count entries
table_read bytes count entries rest read = record { rest = rest; bytes_are = read.bytes_are; count_is = read.done_is; each = read.each; apart = read.apart }

-- what a search among these for an entry's blocks finds
pub met_is : (met : Option Extent) (entry : Entry) (extent : Extent) (first count blocks : ℕ) (entries items : List Entry) → met ≡ find (meets first blocks) (taken items None) → extent ≡ extent_of entry → first ≡ extent.first → blocks ≡ count → count ≡ block_count extent → items ≡ entries
    → met ≡ find (meets entry.first (block_count (extent_of entry))) (taken entries None)
met_is met entry extent first count blocks entries items e is first_is blocks_is count_is same =
    e ∙ ap (λ f. find (meets f blocks) (taken items None)) (first_is ∙ ap (λ (x : Extent). x.first) is)
    ∙ ap (λ n. find (meets entry.first n) (taken items None)) (blocks_is ∙ count_is ∙ ap block_count is)
    ∙ ap (λ (s : List Entry). find (meets entry.first (block_count (extent_of entry))) (taken s None)) same
