-- The files of parts, one after the other.
use Rattle.std.specs.List.{AllZip}
use Rattle.std.specs.List.Sorted.{IsPermutation, IsSortedBy}
use Rattle.std.proofs.Common.{◌≡◌, List, [], ◌∷◌, ◌++◌, length, All, refl, sym, ◌∙◌, ap, subst, append_assoc, append-nil, arith}
use Rattle.std.proofs.lemmas.List.{nil_from_length}
use Rattle.std.proofs.lemmas.List.Elements.{All-append, All-nil, All-cons, All-head, All-tail, All-drop}
use Rattle.std.proofs.lemmas.List.Sorted.{All-permutation, IsPermutation-sym, length_permutation}
use Rattle.std.proofs.Math.Seq.{drop-append_seam}
use Rattle.std.proofs.lemmas.Slice.Zip.{all_zipped_more, AllZip-long}
use Rattle.import_check.specs.InOrder.{joined}
use Rattle.import_check.specs.declared.release.ReleaseFile.{ReleaseFile}
use Rattle.import_check.specs.declared.scope.Scope.{Scope}
use Rattle.release_folder.specs.declared.part.Part.{Part}
use Rattle.release_folder.specs.Names.{IsTakenFile, AreInOrder, AreOfParts, AreFolders, AreSorted, has_lesser_name, has_lesser_folder}
use Rattle.release_folder.specs.Private.{IsTakenPart, AddFolders, AddSorted}

-- ---- lists that belong to each other

joined_push : (lists : List (List ReleaseFile)) (files : List ReleaseFile) → joined (lists ++ files ∷ []) ≡ joined lists ++ files
joined_push [] files = append-nil files
joined_push (list ∷ lists) files = ap (λ l. list ++ l) (joined_push lists files) ∙ sym (append_assoc list (joined lists) files)

-- the last of some, all of which have it
pub at_seam : {X : Type 0} (P : X → Type 0) (xs : List X) (x : X) (rest : List X) → All P (xs ++ x ∷ rest) → P x
at_seam P xs x rest all = All-head P x rest (subst (All P) (drop-append_seam xs (x ∷ rest)) (All-drop P (length xs) (xs ++ x ∷ rest) all))

-- ---- files of folders

pub add_none : (before : List ReleaseFile) → AddFolders [] before before
add_none before = ([], record { lists = []; each = tt; files_are = refl }, sym (append-nil before))

pub add_more : (folders : List Part) (part : Part) (before files more : List ReleaseFile) → AddFolders folders before files → AddSorted part.files.items files more → AddFolders (folders ++ part ∷ []) before more
add_more folders part before files more (rest, are, files_are) (sorted, sorts, more_are) = (
  rest ++ sorted,
  record {
    lists = are.lists ++ sorted ∷ [];
    each = all_zipped_more (λ (p : Part) (l : List ReleaseFile). AreSorted p.files.items l) folders are.lists part sorted are.each sorts;
    files_are = ap (λ l. l ++ sorted) are.files_are ∙ sym (joined_push are.lists sorted);
  },
  more_are ∙ ap (λ l. l ++ sorted) files_are ∙ append_assoc before rest sorted,
)

each_sorted : (folders : List Part) (lists : List (List ReleaseFile)) → AllZip (λ part list. AreSorted part.files.items list) folders lists → All (IsSortedBy has_lesser_name) lists
each_sorted [] [] all = All-nil (IsSortedBy has_lesser_name)
each_sorted [] (l ∷ lists) all = absurd all
each_sorted (p ∷ folders) [] all = absurd all
each_sorted (p ∷ folders) (l ∷ lists) all = All-cons (IsSortedBy has_lesser_name) l lists (all.0).in_order (each_sorted folders lists all.1)

each_taken_of : (scope : Scope) (folders : List Part) (lists : List (List ReleaseFile)) → AllZip (λ part list. AreSorted part.files.items list) folders lists → All (IsTakenPart scope) folders → All (IsTakenFile scope) (joined lists)
each_taken_of scope [] [] all taken = All-nil (IsTakenFile scope)
each_taken_of scope [] (l ∷ lists) all taken = absurd all
each_taken_of scope (p ∷ folders) [] all taken = absurd all
each_taken_of scope (p ∷ folders) (l ∷ lists) all taken =
    All-append (IsTakenFile scope) l (joined lists)
    (All-permutation (IsTakenFile scope) p.files.items l (all.0).permutation (All-head (IsTakenPart scope) p folders taken))
    (each_taken_of scope folders lists all.1 (All-tail (IsTakenPart scope) p folders taken))

-- ---- files of a release

pub of_parts : (terminology sorted : List ReleaseFile) (refset folders : List Part) (files : List ReleaseFile) → AreSorted terminology sorted → IsPermutation refset folders → IsSortedBy has_lesser_folder folders → AddFolders folders sorted files → AreOfParts terminology refset files
of_parts terminology sorted refset folders files sorts same in_order_2 (rest, are, files_are) = record {
  first = sorted;
  folders = folders;
  rest = rest;
  files_are = files_are;
  first_sorted = sorts;
  same_folders = same;
  folders_sorted = in_order_2;
  rest_sorted = are;
}

pub in_order : (scope : Scope) (terminology : List ReleaseFile) (refset : List Part) (files : List ReleaseFile) → AreFolders scope (length refset) → AreOfParts terminology refset files → AreInOrder scope files
in_order scope terminology refset files few parts =
    let rest = parts.rest_sorted in
    let long : length rest.lists ≡ length refset = AllZip-long (λ (p : Part) (l : List ReleaseFile). AreSorted p.files.items l) parts.folders rest.lists rest.each ∙ length_permutation refset parts.folders parts.same_folders in
    record {
      first = parts.first;
      others = rest.lists;
      files_are = parts.files_are ∙ ap (λ l. parts.first ++ l) rest.files_are;
      first_sorted = parts.first_sorted.in_order;
      others_sorted = each_sorted parts.folders rest.lists rest.each;
      few = subst (AreFolders scope) (sym long) few;
    }

pub each_taken : (scope : Scope) (terminology : List ReleaseFile) (refset : List Part) (files : List ReleaseFile) → AreOfParts terminology refset files
    → All (IsTakenFile scope) terminology → All (IsTakenPart scope) refset → All (IsTakenFile scope) files
each_taken scope terminology refset files parts taken taken_2 =
    let rest = parts.rest_sorted in
    let P : List ReleaseFile → Type 0 = λ l. All (IsTakenFile scope) l in
    subst P (sym parts.files_are)
    (All-append (IsTakenFile scope) parts.first parts.rest
    (All-permutation (IsTakenFile scope) terminology parts.first parts.first_sorted.permutation taken)
    (subst P (sym rest.files_are)
    (each_taken_of scope parts.folders rest.lists rest.each (All-permutation (IsTakenPart scope) refset parts.folders parts.same_folders taken_2))))

-- ---- no files

left_nil : {X : Type 0} (xs ys : List X) → xs ++ ys ≡ [] → xs ≡ []
left_nil [] ys none = refl
left_nil (x ∷ xs) ys none = let no : ⊥ = omega (arith, ap length none) in absurd no

pub right_nil : {X : Type 0} (xs ys : List X) → xs ++ ys ≡ [] → ys ≡ []
right_nil [] ys none = none
right_nil (x ∷ xs) ys none = let no : ⊥ = omega (arith, ap length none) in absurd no

pub none_before : (files sorted : List ReleaseFile) → IsPermutation files sorted → sorted ≡ [] → files ≡ []
none_before files sorted same none =
    nil_from_length files (sym (length_permutation files sorted same) ∙ ap (λ (l : List ReleaseFile). length l) none)

pub none_after : (files sorted : List ReleaseFile) → IsPermutation files sorted → files ≡ [] → sorted ≡ []
none_after files sorted same none = nil_from_length sorted (length_permutation files sorted same ∙ ap (λ (l : List ReleaseFile). length l) none)

all_empty : (folders : List Part) (lists : List (List ReleaseFile)) → AllZip (λ part list. AreSorted part.files.items list) folders lists → joined lists ≡ [] → All (λ part. part.files.items ≡ []) folders
all_empty [] [] all none = All-nil (λ (part : Part). part.files.items ≡ [])
all_empty [] (l ∷ lists) all none = absurd all
all_empty (p ∷ folders) [] all none = absurd all
all_empty (p ∷ folders) (l ∷ lists) all none =
    All-cons (λ (part : Part). part.files.items ≡ []) p folders
    (none_before p.files.items l (all.0).permutation (left_nil l (joined lists) none))
    (all_empty folders lists all.1 (right_nil l (joined lists) none))

none_joined : (folders : List Part) (lists : List (List ReleaseFile)) → AllZip (λ part list. AreSorted part.files.items list) folders lists → All (λ part. part.files.items ≡ []) folders → joined lists ≡ []
none_joined [] [] all none = refl
none_joined [] (l ∷ lists) all none = absurd all
none_joined (p ∷ folders) [] all none = absurd all
none_joined (p ∷ folders) (l ∷ lists) all none =
    let E : Part → Type 0 = λ part. part.files.items ≡ [] in
    let first : l ≡ [] = none_after p.files.items l (all.0).permutation (All-head E p folders none) in
    let rest : joined lists ≡ [] = none_joined folders lists all.1 (All-tail E p folders none) in
    ap (λ k. k ++ joined lists) first ∙ rest

-- the parts of a release without a file have none
pub parts_empty : (terminology : List ReleaseFile) (refset : List Part) (files : List ReleaseFile) → AreOfParts terminology refset files → files ≡ []
    → (terminology ≡ []) × All (λ part. part.files.items ≡ []) refset
parts_empty terminology refset files parts none =
    let rest = parts.rest_sorted in
    let both : parts.first ++ parts.rest ≡ [] = sym parts.files_are ∙ none in (
      none_before terminology parts.first parts.first_sorted.permutation (left_nil parts.first parts.rest both),
      All-permutation (λ (part : Part). part.files.items ≡ []) parts.folders refset (IsPermutation-sym refset parts.folders parts.same_folders)
          (all_empty parts.folders rest.lists rest.each (sym rest.files_are ∙ right_nil parts.first parts.rest both)),
    )

-- and the release of parts that have none has none
pub files_empty : (terminology : List ReleaseFile) (refset : List Part) (files : List ReleaseFile) → AreOfParts terminology refset files
    → (terminology ≡ []) × All (λ part. part.files.items ≡ []) refset → files ≡ []
files_empty terminology refset files parts (none, none_2) =
    let rest = parts.rest_sorted in
    let first : parts.first ≡ [] = none_after terminology parts.first parts.first_sorted.permutation none in
    let second : parts.rest ≡ [] = rest.files_are ∙ none_joined parts.folders rest.lists rest.each (All-permutation (λ (part : Part). part.files.items ≡ []) refset parts.folders parts.same_folders none_2) in
    parts.files_are ∙ ap (λ l. l ++ parts.rest) first ∙ second
