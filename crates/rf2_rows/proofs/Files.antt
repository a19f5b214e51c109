-- Files and their lines.
use Rattle.std.proofs.Common.{◌≡◌, ℕ, ◌+◌, ◌⊎◌, List, [], ◌∷◌, ◌++◌, length, take, drop, take-append-drop, Result, Ok, Err, refl, sym, ap, subst, ◌∙◌, inl, inr, append_assoc}
use Rattle.std.specs.Prelude.{nat_eq, MatchResult, IfOk, IfErr}
use Rattle.std.specs.Global.{Vec}
use Rattle.std.specs.List.{starts_with}
use Rattle.std.proofs.lemmas.Bool.{cases_Bool, cond-true, cond-false}
use Rattle.std.specs.Cmp.Lexicographic.{same_text}
use Rattle.std.proofs.lemmas.Slice.Zip.{all_zipped_more}
use Rattle.list_lemmas.proofs.Parts.{zip_lengths}
use Rattle.rf2_values.specs.declared.row.Kind.{Kind}
use Rattle.rf2_rows.specs.declared.fault.RowFault.{RowFault}
use Rattle.rf2_rows.specs.declared.fault.RowFault.TheVariants as rowfault
use Rattle.rf2_rows.specs.declared.fault.FileFault.{FileFault}
use Rattle.rf2_rows.specs.declared.fault.FileFault.TheVariants as filefault
use Rattle.rf2_values.specs.declared.row.Row.{Row}
use Rattle.rf2_values.specs.Row.{RowValue, Spells}
use Rattle.rf2_rows.specs.declared.shape.Shape.{Shape}
use Rattle.rf2_rows.specs.Line.{HasShape}
use Rattle.rf2_rows.specs.Private.{IsLineReading, at_line_of}
use Rattle.rf2_rows.specs.File.{InLines, mark, without_mark, lines_in, IsHeader, SpellsEach, shape_with, IsReleaseFile, IsFaultOfRows, IsFaultOfLines, IsFaultOfFile, IsFaultThat}
use Rattle.rf2_rows.proofs.Lines.{in_lines}

-- the lines before spell the rows so far, and those left follow
abbrev pub SoFar : Shape → List (List ℕ) → List RowValue → List (List ℕ) → Type 0
SoFar shape lines rows left = (before : List (List ℕ)) × (before ++ left ≡ lines) × SpellsEach shape rows before

pub one_more : (shape : Shape) (lines : List (List ℕ)) (rows : List RowValue) (left rest : List (List ℕ)) (line : List ℕ) (v : RowValue)
    → SoFar shape lines rows left → left ≡ line ∷ rest → HasShape shape v × Spells v line → SoFar shape lines (rows ++ v ∷ []) rest
one_more shape lines rows left rest line v h e spelled = (
  h.0 ++ line ∷ [],
  append_assoc h.0 (line ∷ []) rest ∙ ap (λ (x : List (List ℕ)). h.0 ++ x) (sym e) ∙ h.1,
  all_zipped_more (λ w text. HasShape shape w × Spells w text) rows h.0 v line h.2 spelled,
)

pub fault_there : (shape : Shape) (lines : List (List ℕ)) (rows : List RowValue) (left rest : List (List ℕ)) (line : List ℕ) (e : RowFault) (n : ℕ)
    → SoFar shape lines rows left → left ≡ line ∷ rest → IsLineReading shape line (Err e) → n ≡ length rows + 2 → IsFaultThat (IsFaultOfRows shape lines) (at_line_of n e)
fault_there shape lines rows left rest line rowfault.OutOfMemory n h is given at = tt
fault_there shape lines rows left rest line (rowfault.Line f) n h is given at =
    (rows, h.0, line, rest, sym h.1 ∙ ap (λ (x : List (List ℕ)). h.0 ++ x) is, h.2, given, at ∙ ap (λ (k : ℕ). k + 2) (zip_lengths (λ w text. HasShape shape w × Spells w text) rows h.0 h.2))

-- ---- a file that was read

-- the bytes are an optional mark, and then those without it
front_of : (bytes : List ℕ) → (front : List ℕ) × ((front ≡ []) ⊎ (front ≡ mark)) × (bytes ≡ front ++ without_mark bytes)
front_of bytes =
    elim (cases_Bool (starts_with nat_eq bytes mark)) [
      | inl marked ↦ (mark, inr refl, sym (ap (λ (x : List ℕ). mark ++ x) (cond-true _ _ _ marked) ∙ ap (λ (x : List ℕ). x ++ drop 3 bytes) (same_text mark (take 3 bytes) (sym marked)) ∙ take-append-drop 3 bytes))
      | inr plain ↦ ([], inl refl, sym (cond-false _ _ _ plain))
    ]

pub is_release_file : (kind : Kind) (n : ℕ) (rows : List RowValue) (bytes : List ℕ) (first : List ℕ) (others : List (List ℕ))
    → lines_in (without_mark bytes) ≡ first ∷ others → IsHeader kind n first → SpellsEach (shape_with kind n) rows others → IsReleaseFile kind rows bytes
is_release_file kind n rows bytes first others cut head spelled =
    let front = front_of bytes in
    record {
      front = front.0;
      is_front = front.1;
      body = without_mark bytes;
      names = first;
      further = n;
      are_names = head;
      texts = others;
      whole = front.2;
      in_lines = subst (λ (ls : List (List ℕ)). InLines ls (without_mark bytes)) cut (in_lines (without_mark bytes));
      spelled = spelled;
    }

-- what the lines below column names give is what the file gives
pub rows_found : (kind : Kind) (bytes first : List ℕ) (others : List (List ℕ)) (shape : Shape) (r : Result (Vec Row) FileFault)
    → lines_in (without_mark bytes) ≡ first ∷ others → (shape.kind ≡ kind) × IsHeader kind shape.further first
    → MatchResult r (λ rows. SpellsEach shape rows.items others) (IsFaultThat (IsFaultOfRows shape others)) → IfOk r (λ rows. IsReleaseFile kind rows.items bytes)
rows_found kind bytes first others shape (Ok rows) cut head h =
    is_release_file kind shape.further rows.items bytes first others cut head.1 (subst (λ (k : Kind). SpellsEach (shape_with k shape.further) rows.items others) head.0 h)
rows_found kind bytes first others shape (Err e) cut head h = tt

pub rows_faulty : (kind : Kind) (bytes first : List ℕ) (others : List (List ℕ)) (shape : Shape) (r : Result (Vec Row) FileFault)
    → lines_in (without_mark bytes) ≡ first ∷ others → (shape.kind ≡ kind) × IsHeader kind shape.further first
    → MatchResult r (λ rows. SpellsEach shape rows.items others) (IsFaultThat (IsFaultOfRows shape others)) → IfErr r (IsFaultThat (IsFaultOfFile kind bytes))
rows_faulty kind bytes first others shape (Ok rows) cut head h = tt
rows_faulty kind bytes first others shape (Err filefault.OutOfMemory) cut head h = tt
rows_faulty kind bytes first others shape (Err (filefault.Row n f)) cut head h =
    subst (λ (lines : List (List ℕ)). IsFaultOfLines kind lines n f) (sym cut) (inr (shape.further, head.1, subst (λ (k : Kind). IsFaultOfRows (shape_with k shape.further) others n f) head.0 h))
