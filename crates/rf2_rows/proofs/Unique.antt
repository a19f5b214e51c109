-- A line has at most one fault, and so has a file.
use Rattle.std.proofs.Common.{◌≡◌, ℕ, suc, ◌+◌, ◌⊎◌, List, [], ◌∷◌, ◌++◌, length, Result, Ok, Err, refl, sym, ap, subst, ◌∙◌, arith, inl, inr}
use Rattle.std.specs.Prelude.{MatchResult, IfOk, IfErr}
use Rattle.std.specs.Global.{Vec}
use Rattle.std.specs.Str.{IsUtf8}
use Rattle.list_lemmas.proofs.Parts.{same_first_and_rest}
use Rattle.rf2_values.specs.declared.sctid.Class.{Class}
use Rattle.rf2_values.specs.declared.row.Kind.{Kind}
use Rattle.rf2_values.specs.declared.row.Kind.TheVariants as kind
use Rattle.rf2_values.specs.declared.row.Row.{Row}
use Rattle.rf2_values.specs.Row.{RowValue, Spells}
use Rattle.rf2_rows.specs.declared.shape.Shape.{Shape}
use Rattle.rf2_rows.specs.declared.fault.LineFault.{LineFault}
use Rattle.rf2_rows.specs.declared.fault.RowFault.{RowFault}
use Rattle.rf2_rows.specs.declared.fault.RowFault.TheVariants as rowfault
use Rattle.rf2_rows.specs.declared.fault.FileFault.{FileFault}
use Rattle.rf2_rows.specs.declared.fault.FileFault.TheVariants as filefault
use Rattle.rf2_rows.specs.Line.{Column, Identifier, Time, Active, ConceptReference, ComponentReference, Number, Text, Any, HasClassFault, HasIdFault, HasFault, FirstFault, columns, columns_of, HasShape, IsFaultOfColumns, IsFaultOf}
use Rattle.rf2_rows.specs.Private.{IsLineReading}
use Rattle.rf2_rows.specs.File.{SpellsEach, shape_with, IsFirstLineFault, IsFaultOfRows, IsFaultOfLines, IsFaultOfFile, IsFaultThat, IsReleaseFile, lines_in, without_mark}
use Rattle.rf2_rows.proofs.RowLaws.{no_fault, spelled_has_no_fault, spells_one_row}
use Rattle.rf2_rows.proofs.FileLaws.{one_further, no_first_line_fault, release_file_has_no_fault}

-- ---- of a column

one_class_fault : (c : Class) (t : List ℕ) (f g : LineFault) → HasClassFault c t f → HasClassFault c t g → f ≡ g
one_class_fault c t f g (inl a) (inl b) = a.1 ∙ sym b.1
one_class_fault c t f g (inl a) (inr b) = absurd (a.0 b.0)
one_class_fault c t f g (inr a) (inl b) = absurd (b.0 a.0)
one_class_fault c t f g (inr a) (inr b) = a.2 ∙ sym b.2

one_id_fault : (k : Kind) (t : List ℕ) (f g : LineFault) → HasIdFault k t f → HasIdFault k t g → f ≡ g
one_id_fault kind.Concept t f g a b = one_class_fault _ t f g a b
one_id_fault kind.Description t f g a b = one_class_fault _ t f g a b
one_id_fault kind.Relationship t f g a b = one_class_fault _ t f g a b
one_id_fault kind.Association t f g a b = a.1 ∙ sym b.1
one_id_fault kind.Concrete t f g a b = one_class_fault _ t f g a b
one_id_fault kind.Member t f g a b = a.1 ∙ sym b.1

one_column_fault : (c : Column) (t : List ℕ) (f g : LineFault) → HasFault c t f → HasFault c t g → f ≡ g
one_column_fault (Identifier k) t f g a b = one_id_fault k t f g a b
one_column_fault Time t f g a b = a.1 ∙ sym b.1
one_column_fault Active t f g a b = a.1 ∙ sym b.1
one_column_fault ConceptReference t f g a b = a.1 ∙ sym b.1
one_column_fault ComponentReference t f g a b = a.1 ∙ sym b.1
one_column_fault Number t f g a b = a.1 ∙ sym b.1
one_column_fault Text t f g a b = a.1 ∙ sym b.1
one_column_fault Any t f g a b = a.1 ∙ sym b.1

one_first_fault : (cs : List Column) (ts : List (List ℕ)) (f g : LineFault) → FirstFault cs ts f → FirstFault cs ts g → f ≡ g
unfolding FirstFault
one_first_fault [] ts f g a b = absurd a
one_first_fault (c ∷ cs) [] f g a b = absurd a
one_first_fault (c ∷ cs) (t ∷ ts) f g (inl a) (inl b) = one_column_fault c t f g a b
one_first_fault (c ∷ cs) (t ∷ ts) f g (inl a) (inr b) = absurd (no_fault c t f b.0 a)
one_first_fault (c ∷ cs) (t ∷ ts) f g (inr a) (inl b) = absurd (no_fault c t g a.0 b)
one_first_fault (c ∷ cs) (t ∷ ts) f g (inr a) (inr b) = one_first_fault cs ts f g a.1 b.1

-- ---- of a line

one_fault_of_columns : (shape : Shape) (ts : List (List ℕ)) (f g : LineFault) → IsFaultOfColumns shape ts f → IsFaultOfColumns shape ts g → f ≡ g
one_fault_of_columns shape ts f g (inl a) (inl b) = a.1 ∙ sym b.1
one_fault_of_columns shape ts f g (inl a) (inr b) = absurd (a.0 b.0)
one_fault_of_columns shape ts f g (inr a) (inl b) = absurd (b.0 a.0)
one_fault_of_columns shape ts f g (inr a) (inr b) = one_first_fault (columns shape) ts f g a.1 b.1

-- a fault of UTF-8, and then what else there may be
one_of_text : (text : List ℕ) (P : LineFault → Type 0) (x f g : LineFault) → ((f g : LineFault) → P f → P g → f ≡ g)
    → (¬ (IsUtf8 text) × (f ≡ x)) ⊎ (IsUtf8 text × P f) → (¬ (IsUtf8 text) × (g ≡ x)) ⊎ (IsUtf8 text × P g) → f ≡ g
one_of_text text P x f g one (inl a) (inl b) = a.1 ∙ sym b.1
one_of_text text P x f g one (inl a) (inr b) = absurd (a.0 b.0)
one_of_text text P x f g one (inr a) (inl b) = absurd (b.0 a.0)
one_of_text text P x f g one (inr a) (inr b) = one f g a.1 b.1

pub one_fault_of_line : (shape : Shape) (text : List ℕ) (f g : LineFault) → IsFaultOf shape text f → IsFaultOf shape text g → f ≡ g
one_fault_of_line shape text f g (inl a) (inl b) = a.1 ∙ sym b.1
one_fault_of_line shape text f g (inl a) (inr b) = let long = a.0 in let short = b.0 in absurd (omega arith)
one_fault_of_line shape text f g (inr a) (inl b) = let long = b.0 in let short = a.0 in absurd (omega arith)
one_fault_of_line shape text f g (inr a) (inr b) = one_of_text text (IsFaultOfColumns shape (columns_of text)) _ f g (one_fault_of_columns shape (columns_of text)) a.1 b.1

-- ---- of a file

one_first_line_fault : (kind : Kind) (text : List ℕ) (f g : LineFault) → IsFirstLineFault kind text f → IsFirstLineFault kind text g → f ≡ g
one_first_line_fault kind text f g (inl a) (inl b) = a.1 ∙ sym b.1
one_first_line_fault kind text f g (inl a) (inr b) = let long = a.0 in let short = b.0 in absurd (omega arith)
one_first_line_fault kind text f g (inr a) (inl b) = let long = b.0 in let short = a.0 in absurd (omega arith)
one_first_line_fault kind text f g (inr a) (inr b) =
    elim a.1 [
      | inl bad ↦ elim b.1 [ inl also ↦ bad.1 ∙ sym also.1 | inr good ↦ absurd (bad.0 good.0) ]
      | inr good ↦ elim b.1 [ inl bad ↦ absurd (bad.0 good.0) | inr also ↦ good.2 ∙ sym also.2 ]
    ]

-- lines that are cut at a faulty one, where those before it spell rows, are cut there alone
one_cut : (shape : Shape) (rows others : List RowValue) (before until : List (List ℕ)) (t u : List ℕ) (after rest : List (List ℕ)) (f g : LineFault)
    → before ++ t ∷ after ≡ until ++ u ∷ rest → SpellsEach shape rows before → SpellsEach shape others until → IsFaultOf shape t f → IsFaultOf shape u g → (length before ≡ length until) × (f ≡ g)
one_cut shape rows others [] [] t u after rest f g e a b ft fu =
    let same = (same_first_and_rest t u after rest e).0 in
    (refl, one_fault_of_line shape u f g (subst (λ (x : List ℕ). IsFaultOf shape x f) same ft) fu)
one_cut shape rows [] [] (y ∷ ys) t u after rest f g e a b ft fu = absurd b
one_cut shape rows (w ∷ ws) [] (y ∷ ys) t u after rest f g e a b ft fu =
    let same = (same_first_and_rest t y after (ys ++ u ∷ rest) e).0 in
    absurd (spelled_has_no_fault shape w y f b.0.0 b.0.1 (subst (λ (x : List ℕ). IsFaultOf shape x f) same ft))
one_cut shape [] others (x ∷ xs) [] t u after rest f g e a b ft fu = absurd a
one_cut shape (v ∷ vs) others (x ∷ xs) [] t u after rest f g e a b ft fu =
    let same = (same_first_and_rest x u (xs ++ t ∷ after) rest e).0 in
    absurd (spelled_has_no_fault shape v x g a.0.0 a.0.1 (subst (λ (y : List ℕ). IsFaultOf shape y g) (sym same) fu))
one_cut shape [] others (x ∷ xs) (y ∷ ys) t u after rest f g e a b ft fu = absurd a
one_cut shape (v ∷ vs) [] (x ∷ xs) (y ∷ ys) t u after rest f g e a b ft fu = absurd b
one_cut shape (v ∷ vs) (w ∷ ws) (x ∷ xs) (y ∷ ys) t u after rest f g e a b ft fu =
    let later = one_cut shape vs ws xs ys t u after rest f g (same_first_and_rest x y (xs ++ t ∷ after) (ys ++ u ∷ rest) e).1 a.1 b.1 ft fu in
    (ap suc later.0, later.1)

one_fault_of_rows : (shape : Shape) (lines : List (List ℕ)) (m n : ℕ) (f g : LineFault) → IsFaultOfRows shape lines m f → IsFaultOfRows shape lines n g → (m ≡ n) × (f ≡ g)
one_fault_of_rows shape lines m n f g a b =
    let cut = one_cut shape a.0 b.0 a.1 b.1 a.2 b.2 a.3 b.3 f g (sym a.4 ∙ b.4) a.5 b.5 a.6 b.6 in
    (a.7 ∙ ap (λ (k : ℕ). k + 2) cut.0 ∙ sym b.7, cut.1)

one_fault_of_lines : (kind : Kind) (lines : List (List ℕ)) (m n : ℕ) (f g : LineFault) → IsFaultOfLines kind lines m f → IsFaultOfLines kind lines n g → (m ≡ n) × (f ≡ g)
one_fault_of_lines kind [] m n f g a b = (a.0 ∙ sym b.0, a.1 ∙ sym b.1)
one_fault_of_lines kind (t ∷ ts) m n f g (inl a) (inl b) = (a.0 ∙ sym b.0, one_first_line_fault kind t f g a.1 b.1)
one_fault_of_lines kind (t ∷ ts) m n f g (inl a) (inr b) = absurd (no_first_line_fault kind b.0 t f b.1 a.1)
one_fault_of_lines kind (t ∷ ts) m n f g (inr a) (inl b) = absurd (no_first_line_fault kind a.0 t g a.1 b.1)
one_fault_of_lines kind (t ∷ ts) m n f g (inr a) (inr b) =
    let same : a.0 ≡ b.0 = one_further kind a.0 b.0 t a.1 b.1 in
    one_fault_of_rows (shape_with kind b.0) ts m n f g (subst (λ (k : ℕ). IsFaultOfRows (shape_with kind k) ts m f) same a.2) b.2

pub one_fault_of_file : (kind : Kind) (bytes : List ℕ) (m n : ℕ) (f g : LineFault) → IsFaultOfFile kind bytes m f → IsFaultOfFile kind bytes n g → (m ≡ n) × (f ≡ g)
one_fault_of_file kind bytes m n f g a b = one_fault_of_lines kind (lines_in (without_mark bytes)) m n f g a b

-- ---- the one answer

pub line_only : (shape : Shape) (text : List ℕ) (r : Result RowValue RowFault) → IsLineReading shape text r
    → (v : RowValue) → HasShape shape v → Spells v text → MatchResult r (λ w. w ≡ v) (λ e. e ≡ rowfault.OutOfMemory)
line_only shape text (Ok w) given v k s = spells_one_row w v text (given.0.0 ∙ sym k.0) given.1 s
line_only shape text (Err rowfault.OutOfMemory) given v k s = refl
line_only shape text (Err (rowfault.Line f)) given v k s = absurd (spelled_has_no_fault shape v text f k s given)

pub line_refused : (shape : Shape) (text : List ℕ) (r : Result RowValue RowFault) → IsLineReading shape text r
    → (f : LineFault) → IsFaultOf shape text f → MatchResult r (λ w. ⊥) (λ e. (e ≡ rowfault.OutOfMemory) ⊎ (e ≡ rowfault.Line f))
line_refused shape text (Ok w) given f fault = spelled_has_no_fault shape w text f given.0 given.1 fault
line_refused shape text (Err rowfault.OutOfMemory) given f fault = inl refl
line_refused shape text (Err (rowfault.Line g)) given f fault = inr (ap (λ (x : LineFault). rowfault.Line x) (one_fault_of_line shape text g f given fault))

pub file_refused : (kind : Kind) (bytes : List ℕ) (r : Result (Vec Row) FileFault) → IfOk r (λ v. IsReleaseFile kind v.items bytes) → IfErr r (IsFaultThat (IsFaultOfFile kind bytes))
    → (n : ℕ) (f : LineFault) → IsFaultOfFile kind bytes n f → MatchResult r (λ v. ⊥) (λ e. (e ≡ filefault.OutOfMemory) ⊎ (e ≡ filefault.Row n f))
file_refused kind bytes (Ok v) found given n f fault = release_file_has_no_fault kind v.items bytes n f found fault
file_refused kind bytes (Err filefault.OutOfMemory) found given n f fault = inl refl
file_refused kind bytes (Err (filefault.Row m g)) found given n f fault =
    let one = one_fault_of_file kind bytes m n g f given fault in
    inr (ap (λ (k : ℕ). filefault.Row k g) one.0 ∙ ap (λ (x : LineFault). filefault.Row n x) one.1)
