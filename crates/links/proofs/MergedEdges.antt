-- What is merged of the postings of two segments' rows.
use Rattle.std.proofs.Common.{◌≡◌, ℕ, ◌+◌, ◌≤◌, Bool, true, false, List, [], ◌∷◌, length, map, refl, arith, length-append, ◌∙◌}
use Rattle.std.specs.Prelude.{◌*◌, ◌==◌, ◌&&◌, Option, Some, None, if◌then◌else◌}
use Rattle.std.specs.List.Sorted.{IsPermutation}
use Rattle.std.proofs.lemmas.List.{length-map}
use Rattle.std.proofs.lemmas.List.Sorted.{length_permutation}
use Rattle.rf2_values.specs.declared.row.Body.{Body}
use Rattle.rf2_values.specs.declared.row.Body.TheVariants as body
use Rattle.rf2_values.specs.declared.row.Kind.{Kind}
use Rattle.rf2_values.specs.Row.{RowValue, kind_of}
use Rattle.history_model.specs.Queries.{subject_of, is_a}
use Rattle.history_model.specs.declared.stamped.StampedRow.{StampedRow}
use Rattle.segment.specs.Standing.{places_of}
use Rattle.as_of_index.specs.Postings.{posted_all}
use Rattle.as_of_index.specs.Numbers.{TwoLists}
use Rattle.as_of_index.specs.Merging.{moved}
use Rattle.as_of_index.proofs.Unions.{merged_postings}
use Rattle.as_of_index.proofs.Turns.{none_merged, all_merged}
use Rattle.links.specs.declared.posting.Tag.TheVariants as tags
use Rattle.links.specs.Edges.{RowKey, row_key, plain_key, keys_of_relationship, keys_of_body, keys_of, posting, posted, subject_at, posted_subject}
use Rattle.links.specs.MergedEdges.{subject_kind, posting_kind, AnyMergeBegins, PostingsAreFew, MergedArePosted}

-- ---- a row has one subject at most, and two postings

few_if : {X : Type 0} (n : ℕ) (b : Bool) (xs : List X) → length xs ≤ n → length (if b then xs else []) ≤ n
few_if n true xs le = le
few_if n false xs le = omega arith

keys_few : (active : Bool) (b : Body) → length (keys_of_body active b) ≤ 2
keys_few active (body.Concept c) = omega arith
keys_few active (body.Description d) = omega arith
keys_few active (body.Relationship r) =
    let second = few_if 1 (r.type_id == is_a) (row_key tags.Parent r.source r.type_id r.destination true ∷ []) (omega arith) in
    few_if 2 active (keys_of_relationship r.source r.type_id r.destination) (omega (arith, second))
keys_few active (body.Association a) = few_if 2 active (plain_key tags.Target a.target a.refset true ∷ []) (omega arith)
keys_few active (body.Concrete c) = omega arith
keys_few active (body.Member m) = omega arith

posted_few : (row : RowValue) (i : ℕ) → length (posted row i) ≤ 2
posted_few row i =
    let few = keys_few row.active row.body in
    let same = length-map (keys_of row) (posting i) in
    omega (arith, few, same)

subject_at_few : (o : Option ℕ) (kind : Kind) (i : ℕ) → length (subject_at o kind i) ≤ 1
subject_at_few None kind i = omega arith
subject_at_few (Some id) kind i = omega arith

module _ {X : Type 0} (posted : RowValue → ℕ → List X) where
  permuted_few : (rows : List StampedRow) (xs : List X) (n : ℕ) → length (posted_all posted 0 rows) ≤ n → IsPermutation (posted_all posted 0 rows) xs → length xs ≤ n
  permuted_few rows xs n few same = let long = length_permutation (posted_all posted 0 rows) xs same in omega (arith, few, long)

  one_each : ((row : RowValue) (i : ℕ) → length (posted row i) ≤ 1) → (from : ℕ) (rows : List StampedRow) → length (posted_all posted from rows) ≤ length rows
  one_each one from [] = omega arith
  one_each one from (s ∷ rows) =
      let first = one s.row from in
      let others = one_each one (from + 1) rows in
      let both = length-append (posted s.row from) (posted_all posted (from + 1) rows) in
      omega (arith, first, others, both)

  two_each : ((row : RowValue) (i : ℕ) → length (posted row i) ≤ 2) → (from : ℕ) (rows : List StampedRow) → length (posted_all posted from rows) ≤ 2 * length rows
  two_each two from [] = omega arith
  two_each two from (s ∷ rows) =
      let first = two s.row from in
      let others = two_each two (from + 1) rows in
      let both = length-append (posted s.row from) (posted_all posted (from + 1) rows) in
      omega (arith, first, others, both)

pub postings_are_few : PostingsAreFew
postings_are_few rows e are = record {
  subjects = permuted_few posted_subject rows e.subjects (length rows)
      (one_each posted_subject (λ row i. few_if 1 row.active (subject_at (subject_of row) (kind_of row) i) (subject_at_few (subject_of row) (kind_of row) i)) 0 rows) are.subjects;
  postings = permuted_few posted rows e.postings (2 * length rows) (two_each posted posted_few 0 rows) are.postings;
}

-- ---- what is posted of a row with another number

keys_moved : (f : ℕ → ℕ) (i : ℕ) (ks : List RowKey) → map (moved posting_kind f) (map (posting i) ks) ≡ map (posting (f i)) ks
keys_moved f i [] = refl
keys_moved f i (k ∷ ks) = λ j. posting (f i) k ∷ keys_moved f i ks j

subject_at_moved : (f : ℕ → ℕ) (o : Option ℕ) (kind : Kind) (i : ℕ) → map (moved subject_kind f) (subject_at o kind i) ≡ subject_at o kind (f i)
subject_at_moved f None kind i = refl
subject_at_moved f (Some id) kind i = refl

moved_if : {X : Type 0} (f : X → X) (b : Bool) (xs ys : List X) → map f xs ≡ ys → map f (if b then xs else []) ≡ (if b then ys else [])
moved_if f true xs ys e = e
moved_if f false xs ys e = refl

subject_moved : (f : ℕ → ℕ) (row : RowValue) (i : ℕ) → map (moved subject_kind f) (posted_subject row i) ≡ posted_subject row (f i)
subject_moved f row i = moved_if (moved subject_kind f) row.active (subject_at (subject_of row) (kind_of row) i) (subject_at (subject_of row) (kind_of row) (f i)) (subject_at_moved f (subject_of row) (kind_of row) i)

-- ---- at the beginning, and at the end

pub any_merge_begins : AnyMergeBegins
any_merge_begins lists a b = record {
  subjects = none_merged subject_kind lists a.subjects b.subjects;
  postings = none_merged posting_kind lists a.postings b.postings;
}

pub merged_are_posted : MergedArePosted
merged_are_posted a_rows b_rows a b m are of_a of_b merged none =
    let lists : TwoLists = record { first = places_of a_rows; second = places_of b_rows } in
    let subjects = none.subjects in
    let postings = none.postings in
    record {
      subjects = merged_postings posted_subject (moved subject_kind) subject_moved a_rows b_rows a.subjects b.subjects m.edges.subjects are of_a.subjects of_b.subjects
          (all_merged subject_kind lists a.subjects b.subjects m.subjects m.edges.subjects merged.subjects (omega (arith, subjects)));
      postings = merged_postings posted (moved posting_kind) (λ f row i. keys_moved f i (keys_of row)) a_rows b_rows a.postings b.postings m.edges.postings are of_a.postings of_b.postings
          (all_merged posting_kind lists a.postings b.postings m.postings m.edges.postings merged.postings (omega (arith, postings)));
    }
