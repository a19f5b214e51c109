-- Each release is accepted, has a fault or contradicts.
use Rattle.std.proofs.Common.{◌≡◌, ◌≢◌, ◌⊎◌, ℕ, ◌+◌, Bool, true, false, List, [], ◌∷◌, ◌++◌, length, refl, sym, ap, subst, inl, inr, ◌∙◌, append_assoc, append-nil}
use Rattle.std.specs.Bool.{Decides}
use Rattle.std.proofs.lemmas.List.{map-append}
use Rattle.std.proofs.lemmas.Slice.Eq.{bytes_eq-Decides, slice_eq-Decides}
use Rattle.std.specs.Cmp.{tied_itself}
use Rattle.std.specs.declared.cmp.Ordering.{Ordering}
use Rattle.std.specs.declared.cmp.Ordering.TheVariants.{Less, Equal, Greater}
use Rattle.rf2_values.specs.declared.key.Key.{Key}
use Rattle.rf2_values.specs.declared.row.Body.{Body}
use Rattle.rf2_values.specs.declared.row.Body.TheVariants as body
use Rattle.rf2_values.specs.Row.{RowValue, version}
use Rattle.rf2_values.specs.Key.{key_of, key_cmp}
use Rattle.rf2_values.specs.Private.{keys_total}
use Rattle.rf2_rows.specs.declared.fault.LineFault.{LineFault}
use Rattle.rf2_rows.specs.File.{IsFaultOfFile}
use Rattle.rf2_rows.specs.Laws.{FileOrFault}
use Rattle.rf2_rows.proofs.Decided.{each_file}
use Rattle.history_model.specs.InOrder.{Has, joined}
use Rattle.history_model.specs.History.{IsConsistent}
use Rattle.history_model.proofs.InOrder.{Has-append_cases}
use Rattle.history_model.proofs.Keys.{same_key}
use Rattle.import_check.specs.declared.release.ReleaseFile.{ReleaseFile}
use Rattle.import_check.specs.declared.release.PlacedLine.{PlacedLine}
use Rattle.import_check.specs.Laws.{OneFault, ReadHasNoFault, OneContradiction, ConsistentHasNone, EachReleaseIsAnswered}
use Rattle.import_check.proofs.Files.{one_reading, release_has_no_fault, one_fault_of_release}
use Rattle.import_check.proofs.Refusals.{no_contradiction, one_contradiction}
use Rattle.import_check.specs.Release.{SpellFiles, IsFirstContradiction, placed_lines, rows_of}
use Rattle.import_check.proofs.Uniting.{rows-files}

-- ---- equal or not

decided : {P : Type 0} (r : Bool) → Decides r P → P ⊎ (P → ⊥)
decided true d = inl (d.0 refl)
decided false d = inr (λ p. let t = d.1 p in absurd (cc))

-- a row as lists of numbers
of_body : Body → List (List ℕ)
of_body (body.Concept c) = (c.definition_status ∷ []) ∷ []
of_body (body.Description d) = (d.concept ∷ d.type_id ∷ d.case_significance ∷ []) ∷ d.language_code ∷ d.term ∷ []
of_body (body.Relationship r) = (r.source ∷ r.destination ∷ r.group ∷ r.type_id ∷ r.characteristic_type ∷ r.modifier ∷ []) ∷ []
of_body (body.Association a) = (a.refset ∷ a.referenced ∷ a.target ∷ []) ∷ []
of_body (body.Concrete c) = (c.source ∷ c.group ∷ c.type_id ∷ c.characteristic_type ∷ c.modifier ∷ []) ∷ c.value ∷ []
of_body (body.Member m) = (m.refset ∷ m.referenced ∷ []) ∷ m.further ∷ []

to_body : List (List ℕ) → Body
to_body ((status ∷ []) ∷ []) = body.Concept (record { definition_status = status })
to_body ((concept ∷ type_id ∷ significance ∷ []) ∷ code ∷ term ∷ []) = body.Description (record { concept = concept; language_code = code; type_id = type_id; term = term; case_significance = significance })
to_body ((source ∷ destination ∷ group ∷ type_id ∷ characteristic ∷ modifier ∷ []) ∷ []) = body.Relationship (record { source = source; destination = destination; group = group; type_id = type_id; characteristic_type = characteristic; modifier = modifier })
to_body ((refset ∷ referenced ∷ target ∷ []) ∷ []) = body.Association (record { refset = refset; referenced = referenced; target = target })
to_body ((source ∷ group ∷ type_id ∷ characteristic ∷ modifier ∷ []) ∷ value ∷ []) = body.Concrete (record { source = source; value = value; group = group; type_id = type_id; characteristic_type = characteristic; modifier = modifier })
to_body ((refset ∷ referenced ∷ []) ∷ further ∷ []) = body.Member (record { refset = refset; referenced = referenced; further = further })
to_body _ = body.Concept (record { definition_status = 0 })

body_back : (b : Body) → to_body (of_body b) ≡ b
unfolding to_body of_body
body_back (body.Concept c) = refl
body_back (body.Description d) = refl
body_back (body.Relationship r) = refl
body_back (body.Association a) = refl
body_back (body.Concrete c) = refl
body_back (body.Member m) = refl

of_flag : Bool → List ℕ
of_flag true = 0 ∷ []
of_flag false = []

to_flag : List ℕ → Bool
to_flag [] = false
to_flag (n ∷ ns) = true

flag_back : (b : Bool) → to_flag (of_flag b) ≡ b
unfolding to_flag of_flag
flag_back true = refl
flag_back false = refl

of_row : RowValue → List (List ℕ)
of_row v = (v.id ∷ v.time ∷ v.module_id ∷ []) ∷ of_flag v.active ∷ of_body v.body

to_row : List (List ℕ) → RowValue
to_row ((id ∷ time ∷ module_id ∷ []) ∷ flag ∷ rest) = version id time (to_flag flag) module_id (to_body rest)
to_row _ = version 0 0 false 0 (body.Concept (record { definition_status = 0 }))

row_back : (v : RowValue) → to_row (of_row v) ≡ v
unfolding to_row of_row
row_back v = let flag = flag_back v.active in let rest = body_back v.body in λ i. version v.id v.time (flag i) v.module_id (rest i)

same_row : (a b : RowValue) → (a ≡ b) ⊎ (a ≡ b → ⊥)
same_row a b = elim (decided _ (slice_eq-Decides bytes_eq-Decides (of_row a) (of_row b) _ refl)) [
  | inl e ↦ inl (sym (row_back a) ∙ ap to_row e ∙ row_back b)
  | inr n ↦ inr (λ e. n (ap of_row e))
]

pub same_or_other_key : (k l : Key) → (k ≡ l) ⊎ (k ≡ l → ⊥)
same_or_other_key k l = by (key_cmp k l) refl where
  tie : k ≡ l → key_cmp k l ≡ Equal
  tie e = subst (λ m. key_cmp k m ≡ Equal) e (tied_itself keys_total k)

  by : (r : Ordering) → key_cmp k l ≡ r → (k ≡ l) ⊎ (k ≡ l → ⊥)
  by Less e = inr (λ s. let differ : Less ≡ Equal = sym e ∙ tie s in cc)
  by Equal e = inl (same_key k l e)
  by Greater e = inr (λ s. let differ : Greater ≡ Equal = sym e ∙ tie s in cc)

-- ---- one line more is consistent or contradicts

abbrev AgreesWithAll : List RowValue → RowValue → Type 0
AgreesWithAll rows row = (other : RowValue) → Has rows other → key_of other ≡ key_of row → other ≡ row

agrees_or_not : (rows : List RowValue) (row : RowValue) → AgreesWithAll rows row ⊎ ((other : RowValue) × Has rows other × (key_of other ≡ key_of row) × (other ≢ row))
agrees_or_not [] row = inl (λ o h e. absurd h)
agrees_or_not (x ∷ xs) row = elim (agrees_or_not xs row) [
  | inr o ↦ inr (o.0, inr o.1, o.2, o.3)
  | inl rest ↦ elim (same_or_other_key (key_of x) (key_of row)) [
    | inr other ↦ inl (λ o h e. elim h [ inl p ↦ absurd (other (ap key_of p ∙ e)) | inr t ↦ rest o t e ])
    | inl key ↦ elim (same_row x row) [
      | inl same ↦ inl (λ o h e. elim h [ inl p ↦ sym p ∙ same | inr t ↦ rest o t e ])
      | inr other ↦ inr (x, inl refl, key, other)
    ]
  ]
]

consistent_more : (rows : List RowValue) (row : RowValue) → IsConsistent rows → AgreesWithAll rows row → IsConsistent (rows ++ row ∷ [])
consistent_more rows row c agrees a b ha hb e = elim (Has-append_cases rows (row ∷ []) a ha) [
  | inl l ↦ elim (Has-append_cases rows (row ∷ []) b hb) [
    | inl m ↦ c a b l m e
    | inr t ↦ elim t [ inl p ↦ agrees a l (e ∙ ap key_of (sym p)) ∙ p | inr n ↦ absurd n ]
  ]
  | inr t ↦ elim t [
    | inl p ↦ elim (Has-append_cases rows (row ∷ []) b hb) [
      | inl m ↦ sym p ∙ sym (agrees b m (sym e ∙ ap key_of (sym p)))
      | inr s ↦ elim s [ inl q ↦ sym p ∙ q | inr n ↦ absurd n ]
    ]
    | inr n ↦ absurd n
  ]
]

abbrev pub ContradictsIn : List RowValue → List PlacedLine → Type 0
ContradictsIn known lines = (file : ℕ) × (line : ℕ) × (key : Key) × IsFirstContradiction known lines file line key

pub consistent_or_not : (known : List RowValue) (done rest : List PlacedLine) → IsConsistent (known ++ rows_of done) → IsConsistent (known ++ rows_of (done ++ rest)) ⊎ ContradictsIn known (done ++ rest)
consistent_or_not known done [] c = inl (subst (λ ls. IsConsistent (known ++ rows_of ls)) (sym (append-nil done)) c)
consistent_or_not known done (l ∷ rest) c = elim (agrees_or_not (known ++ rows_of done) l.row) [
  | inr o ↦ inr (
    l.file,
    l.line,
    key_of l.row,
    record {
      before = done;
      contradicting = l;
      after = rest;
      lines_are = refl;
      consistent = c;
      other = o.0;
      stands = o.1;
      same_key = o.2;
      differs = o.3;
      file_is = refl;
      line_is = refl;
      key_is = refl;
    },
  )
  | inl none ↦
      let more : (known ++ rows_of done) ++ l.row ∷ [] ≡ known ++ rows_of (done ++ l ∷ []) = append_assoc known (rows_of done) (l.row ∷ []) ∙ ap (λ rs. known ++ rs) (sym (map-append (λ (m : PlacedLine). m.row) done (l ∷ []))) in
      subst (λ ls. IsConsistent (known ++ rows_of ls) ⊎ ContradictsIn known ls) (append_assoc done (l ∷ []) rest)
      (consistent_or_not known (done ++ l ∷ []) rest (subst IsConsistent more (consistent_more (known ++ rows_of done) l.row c none)))
]

-- ---- files are release files, or one is the first that isn't

record FirstFaulty (files : List ReleaseFile) : Type 0 where
  before : List ReleaseFile
  lists : List (List RowValue)
  spelled : SpellFiles before lists
  faulty : ReleaseFile
  after : List ReleaseFile
  files_are : files ≡ before ++ faulty ∷ after
  line : ℕ
  fault : LineFault
  fault_is : IsFaultOfFile faulty.kind faulty.bytes.items line fault

read_or_not : FileOrFault → (files : List ReleaseFile) → ((lists : List (List RowValue)) × SpellFiles files lists) ⊎ FirstFaulty files
read_or_not law [] = inl ([], tt)
read_or_not law (f ∷ fs) = elim (law f.kind f.bytes.items) [
  | inr bad ↦ inr (record { before = []; lists = []; spelled = tt; faulty = f; after = fs; files_are = refl; line = bad.0; fault = bad.1; fault_is = bad.2 })
  | inl good ↦ elim (read_or_not law fs) [
    | inl rest ↦ inl (good.0 ∷ rest.0, (good.1, rest.1))
    | inr bad ↦ inr (record { before = f ∷ bad.before; lists = good.0 ∷ bad.lists; spelled = (good.1, bad.spelled); faulty = bad.faulty; after = bad.after; files_are = ap (λ x. f ∷ x) bad.files_are; line = bad.line; fault = bad.fault; fault_is = bad.fault_is })
  ]
]

-- ---- the laws

pub one_fault : OneFault
one_fault release n line fault m other differently a b = one_fault_of_release release n line fault m other differently a b

pub read_has_no_fault : ReadHasNoFault
read_has_no_fault release n line fault read is = release_has_no_fault release read.lists n line fault read.spelled is

pub one_first_contradiction : OneContradiction
one_first_contradiction known release n line key m other different a b =
    let same = one_reading release.files.items b.lists a.lists b.spelled a.spelled in
    one_contradiction known (placed_lines a.lists) n line key m other different a.first (subst (λ ls. IsFirstContradiction known (placed_lines ls) m other different) same b.first)

pub consistent_has_none : ConsistentHasNone
consistent_has_none known release accepted n line key has =
    let is = accepted.is_release in
    let same = one_reading release.files.items is.lists has.lists is.spelled has.spelled in
    let rows_are : accepted.rows ≡ rows_of (placed_lines has.lists) = is.rows_are ∙ ap joined same ∙ sym (rows-files 1 has.lists) in
    no_contradiction known (placed_lines has.lists) n line key (subst (λ rs. IsConsistent (known ++ rs)) rows_are accepted.consistent) has.first

pub each_release_is_answered : EachReleaseIsAnswered
each_release_is_answered known release consistent = elim (read_or_not each_file release.files.items) [
  | inr bad ↦ inr (inl (
    length bad.before + 1,
    bad.line,
    bad.fault,
    record {
      before = bad.before;
      lists = bad.lists;
      spelled = bad.spelled;
      faulty = bad.faulty;
      after = bad.after;
      files_are = bad.files_are;
      file_is = refl;
      fault_is = bad.fault_is;
    },
  ))
  | inl read ↦ elim (consistent_or_not known [] (placed_lines read.0) (subst IsConsistent (sym (append-nil known)) consistent)) [
    | inl all ↦ inl (record { rows = joined read.0; is_release = record { lists = read.0; spelled = read.1; rows_are = refl }; consistent = subst (λ rs. IsConsistent (known ++ rs)) (rows-files 1 read.0) all })
    | inr c ↦ inr (inr (c.0, c.1, c.2, record { lists = read.0; spelled = read.1; first = c.3 }))
  ]
]
