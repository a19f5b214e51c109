-- Releases with equal files are answered alike.
use Rattle.std.proofs.Common.{◌≡◌, ℕ, ◌+◌, Bool, true, false, arith, length, List, [], ◌∷◌, ◌++◌, map, refl, sym, ap, subst, ◌∙◌, Result, Ok, Err}
use Rattle.std.proofs.lemmas.Bool.{false≢true}
use Rattle.rf2_values.specs.declared.row.Kind.{Kind}
use Rattle.rf2_values.specs.declared.row.Kind.TheVariants as kinds
use Rattle.rf2_values.specs.Row.{RowValue}
use Rattle.rf2_values.specs.declared.key.Key.{Key}
use Rattle.rf2_rows.specs.declared.fault.LineFault.{LineFault}
use Rattle.rf2_rows.specs.File.{IsReleaseFile, IsFaultOfFile}
use Rattle.history_model.specs.declared.stamped.StampedRow.{StampedRow}
use Rattle.history_model.specs.declared.receipt.Receipt.{Receipt}
use Rattle.history_model.specs.History.{History}
use Rattle.history_model.specs.InOrder.{Has}
use Rattle.import_check.specs.declared.release.ReleaseFile.{ReleaseFile}
use Rattle.import_check.specs.declared.release.Release.{Release}
use Rattle.import_check.specs.declared.scope.Scope.{Scope}
use Rattle.import_check.specs.declared.scope.Scope.TheVariants as scopes
use Rattle.import_check.specs.declared.found.NewRows.{NewRows}
use Rattle.import_check.specs.Release.{IsAccepted, SpellFiles, IsReleaseOf, IsFaultOfRelease, HasContradiction, HasPossibleContradiction}
use Rattle.import_check.specs.Release.{files_of}
use Rattle.import_check.specs.NewRows.{IsRead, BringsByKey}
use Rattle.history_store.specs.declared.refusal.Refusal.{Refusal}
use Rattle.history_store.specs.declared.refusal.Refusal.TheVariants as store
use Rattle.history_store.specs.Catalog.{Catalog}
use Rattle.history_store.specs.StoreValue.{StoreValue}
use Rattle.history_store.specs.Prepared.{IsForLater, IsAdmitted, scope_of}
use Rattle.history_store.specs.Answers.{IsTakenAs, WouldBeTakenBut, IsImportOf}
use Rattle.history_store.specs.Checking.{HasFailed}

abbrev FileBytes : Type 0
FileBytes = Kind × List ℕ

abbrev bytes_of_file : ReleaseFile → FileBytes
bytes_of_file file = (file.kind, file.bytes.items)

abbrev head_or : FileBytes → List FileBytes → FileBytes
head_or d [] = d
head_or d (x ∷ xs) = x

abbrev rest_of : List FileBytes → List FileBytes
rest_of [] = []
rest_of (x ∷ xs) = xs

abbrev all_bytes : List ReleaseFile → List FileBytes
all_bytes files = map bytes_of_file files

same_file : (x y : ReleaseFile) (xs ys : List ReleaseFile) → all_bytes (x ∷ xs) ≡ all_bytes (y ∷ ys) → bytes_of_file x ≡ bytes_of_file y
same_file x y xs ys e = ap (head_or (bytes_of_file x)) e

same_rest : (x y : ReleaseFile) (xs ys : List ReleaseFile) → all_bytes (x ∷ xs) ≡ all_bytes (y ∷ ys) → all_bytes xs ≡ all_bytes ys
same_rest x y xs ys e = ap rest_of e

abbrev is_nil : List FileBytes → Bool
is_nil [] = true
is_nil (x ∷ xs) = false

not_none : {A : Type 0} (x : ReleaseFile) (xs : List ReleaseFile) → all_bytes (x ∷ xs) ≡ [] → A
not_none x xs e = absurd (false≢true (ap is_nil e))

not_some : {A : Type 0} (x : ReleaseFile) (xs : List ReleaseFile) → [] ≡ all_bytes (x ∷ xs) → A
not_some x xs e = not_none x xs (sym e)

spell_alike : (xs ys : List ReleaseFile) (lists : List (List RowValue)) → all_bytes xs ≡ all_bytes ys → SpellFiles xs lists → SpellFiles ys lists
spell_alike [] [] lists e h = h
spell_alike [] (y ∷ ys) lists e h = not_some y ys e
spell_alike (x ∷ xs) [] lists e h = not_none x xs e
spell_alike (x ∷ xs) (y ∷ ys) [] e h = absurd h
spell_alike (x ∷ xs) (y ∷ ys) (rows ∷ lists) e h =
    (subst (λ (f : FileBytes). IsReleaseFile f.0 rows f.1) (same_file x y xs ys e) h.0, spell_alike xs ys lists (same_rest x y xs ys e) h.1)

-- the files have the same kinds
kinds_alike : (xs ys : List ReleaseFile) → all_bytes xs ≡ all_bytes ys → map (λ (file : ReleaseFile). file.kind) xs ≡ map (λ (file : ReleaseFile). file.kind) ys
kinds_alike [] [] e = refl
kinds_alike [] (y ∷ ys) e = not_some y ys e
kinds_alike (x ∷ xs) [] e = not_none x xs e
kinds_alike (x ∷ xs) (y ∷ ys) e =
    ap (λ (k : Kind). k ∷ map (λ (file : ReleaseFile). file.kind) xs) (ap (λ (f : FileBytes). f.0) (same_file x y xs ys e))
    ∙ ap (λ (l : List Kind). y.kind ∷ l) (kinds_alike xs ys (same_rest x y xs ys e))

-- where one list is cut, the other is
record Cut (before after : List ReleaseFile) (faulty : ReleaseFile) (files : List ReleaseFile) : Type 0 where
  front : List ReleaseFile
  middle : ReleaseFile
  back : List ReleaseFile
  files_are : files ≡ front ++ middle ∷ back
  front_is : all_bytes before ≡ all_bytes front
  middle_is : bytes_of_file faulty ≡ bytes_of_file middle
  same_length : length before ≡ length front

cut_alike : (before after : List ReleaseFile) (faulty : ReleaseFile) (files : List ReleaseFile) → all_bytes (before ++ faulty ∷ after) ≡ all_bytes files → Cut before after faulty files
cut_alike [] after faulty [] e = not_none faulty after e
cut_alike [] after faulty (y ∷ ys) e = record { front = []; middle = y; back = ys; files_are = refl; front_is = refl; middle_is = same_file faulty y after ys e; same_length = refl }
cut_alike (x ∷ before) after faulty [] e = not_none x (before ++ faulty ∷ after) e
cut_alike (x ∷ before) after faulty (y ∷ ys) e =
    let c = cut_alike before after faulty ys (same_rest x y (before ++ faulty ∷ after) ys e) in
    let head = same_file x y (before ++ faulty ∷ after) ys e in
    record {
      front = y ∷ c.front;
      middle = c.middle;
      back = c.back;
      files_are = ap (λ (l : List ReleaseFile). y ∷ l) c.files_are;
      front_is = ap (λ (f : FileBytes). f ∷ all_bytes before) head ∙ ap (λ (l : List FileBytes). bytes_of_file y ∷ l) c.front_is;
      middle_is = c.middle_is;
      same_length = let same = c.same_length in omega (arith, same);
    }

module _ (release other : Release) (same : files_of release ≡ files_of other) where
  pub release_alike : {rows : List RowValue} → IsReleaseOf release rows → IsReleaseOf other rows
  release_alike r = record { lists = r.lists; spelled = spell_alike release.files.items other.files.items r.lists same r.spelled; rows_are = r.rows_are }

  pub read_alike : IsRead release → IsRead other
  read_alike r = record { lists = r.lists; spelled = spell_alike release.files.items other.files.items r.lists same r.spelled }

  contradiction_alike : {known : List RowValue} {file line : ℕ} {key : Key} → HasContradiction known release file line key → HasContradiction known other file line key
  contradiction_alike c = record { lists = c.lists; spelled = spell_alike release.files.items other.files.items c.lists same c.spelled; first = c.first }

  pub brought_alike : {known : List RowValue} {may_be : RowValue → Type 0} {fresh : NewRows} → BringsByKey known may_be release fresh → BringsByKey known may_be other fresh
  brought_alike b = record { rows = b.rows; rows_are = release_alike b.rows_are; new_by_key = b.new_by_key }

  pub possible_alike : {known : List RowValue} {may_be : RowValue → Type 0} {file line : ℕ} {key : Key} → HasPossibleContradiction known may_be release file line key → HasPossibleContradiction known may_be other file line key
  possible_alike c = record {
    lists = c.lists;
    spelled = spell_alike release.files.items other.files.items c.lists same c.spelled;
    possible = c.possible;
  }

  fault_alike : {file line : ℕ} {fault : LineFault} → IsFaultOfRelease release file line fault → IsFaultOfRelease other file line fault
  fault_alike {file} {line} {fault} f =
      let c = cut_alike f.before f.after f.faulty other.files.items (ap all_bytes (sym f.files_are) ∙ same) in
      record {
        before = c.front;
        lists = f.lists;
        spelled = spell_alike f.before c.front f.lists c.front_is f.spelled;
        faulty = c.middle;
        after = c.back;
        files_are = c.files_are;
        file_is = f.file_is ∙ ap (λ (n : ℕ). n + 1) c.same_length;
        fault_is = subst (λ (b : FileBytes). IsFaultOfFile b.0 b.1 line fault) c.middle_is f.fault_is;
      }

  later_alike : (scope : Scope) → IsForLater scope release → IsForLater scope other
  later_alike scopes.Basic is = subst (λ (l : List Kind). Has l kinds.Member) (kinds_alike release.files.items other.files.items same) is
  later_alike scopes.Whole is = is

  earlier_alike : (scope : Scope) → IsForLater scope other → IsForLater scope release
  earlier_alike scopes.Basic is = subst (λ (l : List Kind). Has l kinds.Member) (kinds_alike other.files.items release.files.items (sym same)) is
  earlier_alike scopes.Whole is = is

  admitted_alike : {h : History} {catalog : Catalog} → IsAdmitted h catalog release → IsAdmitted h catalog other
  admitted_alike {h} {catalog} a = record { room = a.room; not_later = λ is. a.not_later (earlier_alike (scope_of catalog) is) }

  abbrev accepted_alike : {known : List RowValue} → IsAccepted known release → IsAccepted known other
  accepted_alike a = record { rows = a.rows; is_release = release_alike a.is_release; consistent = a.consistent }

  taken_alike : {h after : History} {catalog next : Catalog} {receipt : Receipt} → IsTakenAs h after catalog next release receipt → IsTakenAs h after catalog next other receipt
  taken_alike t = record { room = admitted_alike t.room; accepted = accepted_alike t.accepted; history = t.history; receipt_is = t.receipt_is; catalog_is = t.catalog_is }

  unplaced_alike : {h : History} {catalog : Catalog} {Lacks : List StampedRow → Catalog → Type 0} → WouldBeTakenBut h catalog release Lacks → WouldBeTakenBut h catalog other Lacks
  unplaced_alike u = record { room = admitted_alike u.room; accepted = accepted_alike u.accepted; lacks = u.lacks }

  pub import_alike : {D : Type 0} (result : Result Receipt Refusal) (old new : StoreValue D) → (HasFailed result → ⊥) → IsImportOf result old new release → IsImportOf result old new other
  import_alike (Ok receipt) old new sure i = (taken_alike i.0, i.1, i.2)
  import_alike (Err store.ReopenNeeded) old new sure i = i
  import_alike (Err store.CountSpent) old new sure i = i
  import_alike (Err store.LaterVersion) old new sure i = ((i.0.0, (i.0.1.0, later_alike (scope_of old.catalog) i.0.1.1)), i.1)
  import_alike (Err (store.Line file line fault)) old new sure i = ((i.0.0, (admitted_alike i.0.1.0, fault_alike i.0.1.1)), i.1)
  import_alike (Err (store.Contradiction file line)) old new sure i = ((i.0.0, (admitted_alike i.0.1.0, (i.0.1.1.0, contradiction_alike i.0.1.1.1))), i.1)
  import_alike (Err store.TooManySegments) old new sure i = ((i.0.0, unplaced_alike i.0.1), i.1)
  import_alike (Err store.Full) old new sure i = ((i.0.0, unplaced_alike i.0.1), i.1)
  import_alike (Err store.OutOfMemory) old new sure i = absurd (sure tt)
  import_alike (Err store.DiskFault) old new sure i = absurd (sure tt)
  import_alike (Err _) old new sure i = absurd i.0.1
