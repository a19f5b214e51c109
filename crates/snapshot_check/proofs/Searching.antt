-- Identifiers of a kind, in order, and whether one is among them.
use Rattle.std.proofs.Common.{◌≡◌, ℕ, zero, suc, ◌<◌, ◌≤◌, Bool, true, false, cond, Result, Ok, Err, List, [], ◌∷◌, ◌++◌, length, map, get_or, refl, sym, ap, subst, inl, inr, ◌∙◌, arith, append-nil}
use Rattle.std.specs.Prelude.{◌==◌, ◌||◌, ◌&&◌, not, vec_items, MatchResult}
use Rattle.std.specs.Result.{is_ok}
use Rattle.std.specs.List.{filter, list_any}
use Rattle.std.specs.List.Sorted.{IsPermutation, IsSorted, IsBinarySearchResult}
use Rattle.std.specs.Ordering.{nat_cmp}
use Rattle.std.proofs.lemmas.Bool.{eqb-true, eq-eqb, cases_lt}
use Rattle.std.proofs.lemmas.List.Sorted.{searched, IsNonDecreasingBy-from_sort, list_any-IsPermutation, length_permutation}
use Rattle.rf2_values.specs.declared.row.Kind.{Kind}
use Rattle.rf2_values.specs.declared.row.Kind.TheVariants as kinds
use Rattle.rf2_values.specs.Row.{RowValue, kind_of}
use Rattle.rf2_values.specs.Key.{kind_place}
use Rattle.history_model.specs.Queries.{is_kind, is_version_of}
use Rattle.history_model.proofs.Keys.{same_kind}
use Rattle.snapshot_check.specs.declared.seen.Seen.{Seen}
use Rattle.snapshot_check.specs.declared.found.Counts.{Counts}
use Rattle.snapshot_check.specs.Differences.{is_more, is_of_modules, count_of}
use Rattle.snapshot_check.specs.Private.{ids_of, ids_in, id_if_same, AreModules, AddsModule, AddsId, IsSeen, IsSortedSeen}

-- ---- whether a number is among others

none_there : (x : ℕ) (xs : List ℕ) → ((k : ℕ) → k < length xs → get_or xs k 0 ≡ x → ⊥) → list_any (λ y. y == x) xs ≡ false
none_there x [] none = refl
none_there x (y ∷ ys) none =
    elim (y == x) as (λ b. (y == x) ≡ b → (b || list_any (λ z. z == x) ys) ≡ false) [
      | true ↦ λ e. absurd (none 0 (omega arith) (eqb-true y x e))
      | false ↦ λ e. none_there x ys (λ k below same. none (suc k) (omega arith) same)
    ] refl

one_there : (x : ℕ) (xs : List ℕ) (k : ℕ) → k < length xs → get_or xs k 0 ≡ x → list_any (λ y. y == x) xs ≡ true
one_there x [] k below same = absurd (omega arith)
one_there x (y ∷ ys) zero below same = ap (λ b. b || list_any (λ z. z == x) ys) (eq-eqb y x same)
one_there x (y ∷ ys) (suc k) below same =
    elim (y == x) as (λ b. (b || list_any (λ z. z == x) ys) ≡ true) [
      | true ↦ refl
      | false ↦ one_there x ys k (omega arith) same
    ]

-- a search among numbers in order says whether the number is there
pub found_or_not : (xs : List ℕ) (x : ℕ) (r : Result ℕ ℕ) → IsBinarySearchResult (λ y. nat_cmp y x) xs r → IsSorted nat_cmp xs → is_ok r ≡ list_any (λ y. y == x) xs
found_or_not xs x r search sorted = by r (searched xs x r search (λ i j below within. IsNonDecreasingBy-from_sort (λ y. y) xs sorted i j 0 below within)) where
  by : (r : Result ℕ ℕ) → MatchResult r (λ i. (i < length xs) × (get_or xs i 0 ≡ x)) (λ i. (i ≤ length xs) × ((k : ℕ) → k < i → get_or xs k 0 < x) × ((k : ℕ) → i ≤ k → k < length xs → x < get_or xs k 0)) → is_ok r ≡ list_any (λ y. y == x) xs
  by (Ok i) w = sym (one_there x xs i w.0 w.1)
  by (Err i) w = sym (none_there x xs (λ k within same. elim (cases_lt k i) [
    | inl below ↦ (let less = w.1 k below in absurd (omega (arith, same)))
    | inr above ↦ (let more = w.2 k above within in absurd (omega (arith, same)))
  ]))

-- ---- the identifiers of rows

-- whether one of the rows is of the component
pub among : (kind : Kind) (id : ℕ) (rows : List RowValue) → list_any (λ other. other == id) (ids_in rows kind) ≡ list_any (is_version_of kind id) rows
among kind id [] = refl
among kind id (row ∷ rows) =
    elim (is_kind kind row) as (λ b. list_any (λ other. other == id) (map (λ r. r.id) (cond b (row ∷ filter (is_kind kind) rows) (filter (is_kind kind) rows))) ≡ ((b && row.id == id) || list_any (is_version_of kind id) rows)) [
      | true ↦ ap (λ t. (row.id == id) || t) (among kind id rows)
      | false ↦ among kind id rows
    ]

pub ids_more : (kind other : Kind) (rows : List RowValue) (row : RowValue) → kind ≡ kind_of row → ids_in rows other ++ id_if_same kind other row.id ≡ ids_in (rows ++ row ∷ []) other
ids_more kind other [] row is =
    subst (λ k. cond (kind_place k == kind_place other) (row.id ∷ []) [] ≡ ids_in (row ∷ []) other) (sym is)
    (elim (kind_place (kind_of row) == kind_place other) as (λ b. cond b (row.id ∷ []) [] ≡ map (λ r. r.id) (cond b (row ∷ []) [])) [ true ↦ refl | false ↦ refl ])
ids_more kind other (first ∷ rows) row is =
    elim (is_kind other first) as (λ b. map (λ r. r.id) (cond b (first ∷ filter (is_kind other) rows) (filter (is_kind other) rows)) ++ id_if_same kind other row.id ≡ map (λ r. r.id) (cond b (first ∷ filter (is_kind other) (rows ++ row ∷ [])) (filter (is_kind other) (rows ++ row ∷ [])))) [
      | true ↦ ap (λ ys. first.id ∷ ys) (ids_more kind other rows row is)
      | false ↦ ids_more kind other rows row is
    ]

pub many_ids : (kind : Kind) (rows : List RowValue) → length (ids_in rows kind) ≡ length (filter (is_kind kind) rows)
many_ids kind rows = by (filter (is_kind kind) rows) where
  by : (ys : List RowValue) → length (map (λ r. r.id) ys) ≡ length ys
  by [] = refl
  by (y ∷ ys) = ap (λ n. suc n) (by ys)

-- ---- the modules of rows

any_more : {X : Type 0} (p : X → Bool) (xs : List X) (x : X) → list_any p (xs ++ x ∷ []) ≡ (list_any p xs || p x)
any_more p [] x = elim (p x) as (λ b. (b || false) ≡ (false || b)) [ true ↦ refl | false ↦ refl ]
any_more p (y ∷ ys) x = elim (p y) as (λ b. (b || list_any p (ys ++ x ∷ [])) ≡ ((b || list_any p ys) || p x)) [ true ↦ refl | false ↦ any_more p ys x ]

pub module_added : (modules : List ℕ) (module_id : ℕ) → AddsModule module_id modules (modules ++ module_id ∷ [])
module_added modules module_id n = any_more (λ other. other == n) modules module_id

or_false : (b : Bool) → b ≡ (b || false)
or_false true = refl
or_false false = refl

pub module_there : (modules : List ℕ) (module_id : ℕ) → list_any (λ other. other == module_id) modules ≡ true → AddsModule module_id modules modules
module_there modules module_id there n =
    elim (module_id == n) as (λ b. (module_id == n) ≡ b → list_any (λ other. other == n) modules ≡ (list_any (λ other. other == n) modules || b)) [
      | true ↦ λ e. (let named : list_any (λ other. other == n) modules ≡ true = subst (λ m. list_any (λ other. other == m) modules ≡ true) (eqb-true module_id n e) there in rw named refl)
      | false ↦ λ e. or_false (list_any (λ other. other == n) modules)
    ] refl

pub modules_more : (rows : List RowValue) (row : RowValue) (old new : List ℕ) → AreModules rows old → AddsModule row.module_id old new → AreModules (rows ++ row ∷ []) new
modules_more rows row old new are adds n =
    adds n
    ∙ ap (λ b. b || row.module_id == n) (are n)
    ∙ sym (any_more (λ r. r.module_id == n) rows row)

-- ---- one identifier more

pub adds_to : (kind : Kind) (id : ℕ) (old new : Seen) → ids_of new kind ≡ ids_of old kind ++ id ∷ [] → ((other : Kind) → (kind_place kind == kind_place other) ≡ false → ids_of new other ≡ ids_of old other) → new.modules ≡ old.modules → AddsId kind id old new
adds_to kind id old new one others modules = record {
  ids = λ other. elim (kind_place kind == kind_place other) as (λ b. (kind_place kind == kind_place other) ≡ b → ids_of new other ≡ ids_of old other ++ cond b (id ∷ []) []) [
    | true ↦ λ e. subst (λ k. ids_of new k ≡ ids_of old k ++ id ∷ []) (same_kind kind other (eqb-true (kind_place kind) (kind_place other) e)) one
    | false ↦ λ e. others other e ∙ sym (append-nil (ids_of old other))
  ] refl;
  modules = modules;
}

-- a row was seen
pub seen_more : (rows : List RowValue) (row : RowValue) (old mid new : Seen) → IsSeen rows old → AddsId (kind_of row) row.id old mid → AddsModule row.module_id mid.modules.items new.modules.items → ((kind : Kind) → ids_of new kind ≡ ids_of mid kind) → IsSeen (rows ++ row ∷ []) new
seen_more rows row old mid new seen adds module_adds same = record {
  ids = λ kind. same kind ∙ adds.ids kind ∙ ap (λ xs. xs ++ id_if_same (kind_of row) kind row.id) (seen.ids kind) ∙ ids_more (kind_of row) kind rows row refl;
  modules = modules_more rows row mid.modules.items new.modules.items (subst (λ m. AreModules rows (vec_items m)) (sym adds.modules) seen.modules) module_adds;
}

-- the identifiers were put in order
pub sorted_seen : (rows : List RowValue) (old new : Seen) → IsSeen rows old → ((kind : Kind) → IsPermutation (ids_of old kind) (ids_of new kind)) → ((kind : Kind) → IsSorted nat_cmp (ids_of new kind)) → new.modules ≡ old.modules → IsSortedSeen rows new
sorted_seen rows old new seen moved sorted same = record {
  ids = λ kind. subst (λ xs. IsPermutation xs (ids_of new kind)) (seen.ids kind) (moved kind);
  sorted = sorted;
  modules = subst (λ m. AreModules rows (vec_items m)) (sym same) seen.modules;
}

-- whether a row is more
pub more_by_ids : (rows : List RowValue) (row : RowValue) (seen : Seen) → IsSortedSeen rows seen → (list_any (λ n. n == row.module_id) seen.modules.items && not (list_any (λ other. other == row.id) (ids_of seen (kind_of row)))) ≡ is_more rows row
more_by_ids rows row seen sorted =
    ap (λ b. b && not (list_any (λ other. other == row.id) (ids_of seen (kind_of row)))) (sorted.modules row.module_id)
    ∙ ap (λ b. is_of_modules rows row && not b) (sym (list_any-IsPermutation (λ other. other == row.id) (ids_in rows (kind_of row)) (ids_of seen (kind_of row)) (sorted.ids (kind_of row))) ∙ among (kind_of row) row.id rows)

-- how many identifiers there are
pub counted : (rows : List RowValue) (seen : Seen) → IsSortedSeen rows seen → (kind : Kind) → length (ids_of seen kind) ≡ length (filter (is_kind kind) rows)
counted rows seen sorted kind = length_permutation (ids_in rows kind) (ids_of seen kind) (sorted.ids kind) ∙ many_ids kind rows

-- ---- kind by kind

pub adds_concepts : (id : ℕ) (old new : Seen) → new ≡ record old { concepts = new.concepts } → new.concepts.items ≡ old.concepts.items ++ id ∷ [] → AddsId kinds.Concept id old new
adds_concepts id old new same items = adds_to kinds.Concept id old new items others (ap (λ (s : Seen). s.modules) same) where
  others : (other : Kind) → (kind_place kinds.Concept == kind_place other) ≡ false → ids_of new other ≡ ids_of old other
  others kinds.Concept e = absurd cc
  others kinds.Description e = ap (λ (s : Seen). s.descriptions.items) same
  others kinds.Relationship e = ap (λ (s : Seen). s.relationships.items) same
  others kinds.Association e = ap (λ (s : Seen). s.associations.items) same
  others kinds.Concrete e = ap (λ (s : Seen). s.concretes.items) same
  others kinds.Member e = ap (λ (s : Seen). s.members.items) same

pub adds_descriptions : (id : ℕ) (old new : Seen) → new ≡ record old { descriptions = new.descriptions } → new.descriptions.items ≡ old.descriptions.items ++ id ∷ [] → AddsId kinds.Description id old new
adds_descriptions id old new same items = adds_to kinds.Description id old new items others (ap (λ (s : Seen). s.modules) same) where
  others : (other : Kind) → (kind_place kinds.Description == kind_place other) ≡ false → ids_of new other ≡ ids_of old other
  others kinds.Concept e = ap (λ (s : Seen). s.concepts.items) same
  others kinds.Description e = absurd cc
  others kinds.Relationship e = ap (λ (s : Seen). s.relationships.items) same
  others kinds.Association e = ap (λ (s : Seen). s.associations.items) same
  others kinds.Concrete e = ap (λ (s : Seen). s.concretes.items) same
  others kinds.Member e = ap (λ (s : Seen). s.members.items) same

pub adds_relationships : (id : ℕ) (old new : Seen) → new ≡ record old { relationships = new.relationships } → new.relationships.items ≡ old.relationships.items ++ id ∷ [] → AddsId kinds.Relationship id old new
adds_relationships id old new same items = adds_to kinds.Relationship id old new items others (ap (λ (s : Seen). s.modules) same) where
  others : (other : Kind) → (kind_place kinds.Relationship == kind_place other) ≡ false → ids_of new other ≡ ids_of old other
  others kinds.Concept e = ap (λ (s : Seen). s.concepts.items) same
  others kinds.Description e = ap (λ (s : Seen). s.descriptions.items) same
  others kinds.Relationship e = absurd cc
  others kinds.Association e = ap (λ (s : Seen). s.associations.items) same
  others kinds.Concrete e = ap (λ (s : Seen). s.concretes.items) same
  others kinds.Member e = ap (λ (s : Seen). s.members.items) same

pub adds_associations : (id : ℕ) (old new : Seen) → new ≡ record old { associations = new.associations } → new.associations.items ≡ old.associations.items ++ id ∷ [] → AddsId kinds.Association id old new
adds_associations id old new same items = adds_to kinds.Association id old new items others (ap (λ (s : Seen). s.modules) same) where
  others : (other : Kind) → (kind_place kinds.Association == kind_place other) ≡ false → ids_of new other ≡ ids_of old other
  others kinds.Concept e = ap (λ (s : Seen). s.concepts.items) same
  others kinds.Description e = ap (λ (s : Seen). s.descriptions.items) same
  others kinds.Relationship e = ap (λ (s : Seen). s.relationships.items) same
  others kinds.Association e = absurd cc
  others kinds.Concrete e = ap (λ (s : Seen). s.concretes.items) same
  others kinds.Member e = ap (λ (s : Seen). s.members.items) same

pub adds_concretes : (id : ℕ) (old new : Seen) → new ≡ record old { concretes = new.concretes } → new.concretes.items ≡ old.concretes.items ++ id ∷ [] → AddsId kinds.Concrete id old new
adds_concretes id old new same items = adds_to kinds.Concrete id old new items others (ap (λ (s : Seen). s.modules) same) where
  others : (other : Kind) → (kind_place kinds.Concrete == kind_place other) ≡ false → ids_of new other ≡ ids_of old other
  others kinds.Concept e = ap (λ (s : Seen). s.concepts.items) same
  others kinds.Description e = ap (λ (s : Seen). s.descriptions.items) same
  others kinds.Relationship e = ap (λ (s : Seen). s.relationships.items) same
  others kinds.Association e = ap (λ (s : Seen). s.associations.items) same
  others kinds.Concrete e = absurd cc
  others kinds.Member e = ap (λ (s : Seen). s.members.items) same

pub adds_members : (id : ℕ) (old new : Seen) → new ≡ record old { members = new.members } → new.members.items ≡ old.members.items ++ id ∷ [] → AddsId kinds.Member id old new
adds_members id old new same items = adds_to kinds.Member id old new items others (ap (λ (s : Seen). s.modules) same) where
  others : (other : Kind) → (kind_place kinds.Member == kind_place other) ≡ false → ids_of new other ≡ ids_of old other
  others kinds.Concept e = ap (λ (s : Seen). s.concepts.items) same
  others kinds.Description e = ap (λ (s : Seen). s.descriptions.items) same
  others kinds.Relationship e = ap (λ (s : Seen). s.relationships.items) same
  others kinds.Association e = ap (λ (s : Seen). s.associations.items) same
  others kinds.Concrete e = ap (λ (s : Seen). s.concretes.items) same
  others kinds.Member e = absurd cc

pub none_seen : (s : Seen) → s.concepts.items ≡ [] → s.descriptions.items ≡ [] → s.relationships.items ≡ [] → s.associations.items ≡ [] → s.concretes.items ≡ [] → s.members.items ≡ [] → s.modules.items ≡ [] → IsSeen [] s
none_seen s c d r a v m modules = record { ids = ids; modules = λ n. ap (λ xs. list_any (λ other. other == n) xs) modules } where
  ids : (kind : Kind) → ids_of s kind ≡ []
  ids kinds.Concept = c
  ids kinds.Description = d
  ids kinds.Relationship = r
  ids kinds.Association = a
  ids kinds.Concrete = v
  ids kinds.Member = m

pub same_ids : (old new : Seen) → new ≡ record old { modules = new.modules } → (kind : Kind) → ids_of new kind ≡ ids_of old kind
same_ids old new same kinds.Concept = ap (λ (s : Seen). s.concepts.items) same
same_ids old new same kinds.Description = ap (λ (s : Seen). s.descriptions.items) same
same_ids old new same kinds.Relationship = ap (λ (s : Seen). s.relationships.items) same
same_ids old new same kinds.Association = ap (λ (s : Seen). s.associations.items) same
same_ids old new same kinds.Concrete = ap (λ (s : Seen). s.concretes.items) same
same_ids old new same kinds.Member = ap (λ (s : Seen). s.members.items) same

pub sorted_lists : (rows : List RowValue) (old new : Seen) → IsSeen rows old
    → IsPermutation old.concepts.items new.concepts.items → IsSorted nat_cmp new.concepts.items
    → IsPermutation old.descriptions.items new.descriptions.items → IsSorted nat_cmp new.descriptions.items
    → IsPermutation old.relationships.items new.relationships.items → IsSorted nat_cmp new.relationships.items
    → IsPermutation old.associations.items new.associations.items → IsSorted nat_cmp new.associations.items
    → IsPermutation old.concretes.items new.concretes.items → IsSorted nat_cmp new.concretes.items
    → IsPermutation old.members.items new.members.items → IsSorted nat_cmp new.members.items
    → new.modules ≡ old.modules → IsSortedSeen rows new
sorted_lists rows old new seen c cs d ds r rs a as_so v vs m ms same = sorted_seen rows old new seen moved sorted same where
  moved : (kind : Kind) → IsPermutation (ids_of old kind) (ids_of new kind)
  moved kinds.Concept = c
  moved kinds.Description = d
  moved kinds.Relationship = r
  moved kinds.Association = a
  moved kinds.Concrete = v
  moved kinds.Member = m

  sorted : (kind : Kind) → IsSorted nat_cmp (ids_of new kind)
  sorted kinds.Concept = cs
  sorted kinds.Description = ds
  sorted kinds.Relationship = rs
  sorted kinds.Association = as_so
  sorted kinds.Concrete = vs
  sorted kinds.Member = ms

pub counts_of : (counts : Counts) (seen : Seen) → counts.concepts ≡ length seen.concepts.items → counts.descriptions ≡ length seen.descriptions.items → counts.relationships ≡ length seen.relationships.items → counts.associations ≡ length seen.associations.items → counts.concretes ≡ length seen.concretes.items → counts.members ≡ length seen.members.items → (kind : Kind) → count_of counts kind ≡ length (ids_of seen kind)
counts_of counts seen c d r a v m kinds.Concept = c
counts_of counts seen c d r a v m kinds.Description = d
counts_of counts seen c d r a v m kinds.Relationship = r
counts_of counts seen c d r a v m kinds.Association = a
counts_of counts seen c d r a v m kinds.Concrete = v
counts_of counts seen c d r a v m kinds.Member = m
