-- The bytes of a file spell at most one list of rows, and where they spell one they have no fault.
use Rattle.std.proofs.Common.{◌≡◌, ℕ, ◌<◌, ◌≤◌, Bool, true, false, eqb, ltb, ◌&&◌, List, [], ◌∷◌, ◌++◌, length, length-append, get_or, drop, Result, Ok, Err, refl, sym, ap, subst, ◌∙◌, arith, inl, inr, All, append_assoc}
use Rattle.std.specs.Prelude.{not, nat_eq, MatchResult, IfOk, IfErr}
use Rattle.std.specs.Global.{Vec}
use Rattle.std.specs.List.{AllByRecursion, starts_with}
use Rattle.std.specs.Str.{IsUtf8}
use Rattle.std.proofs.lemmas.Bool.{and_parts, not-true, ltb-true, cond-false, eqb-true, ne_eqb}
use Rattle.std.proofs.lemmas.List.{append-nil, append_cancel_left}
use Rattle.std.proofs.lemmas.List.Elements.{All-cons, All-append}
use Rattle.std.proofs.lemmas.Str.{IsUtf8-from_ascii, IsUtf8-nil, IsUtf8-append}
use Rattle.std.proofs.lemmas.Str.Ascii.{IsAscii-from_all}
use Rattle.rf2_values.specs.declared.row.Kind.{Kind}
use Rattle.rf2_values.specs.declared.row.Kind.TheVariants as kind
use Rattle.rf2_rows.specs.declared.fault.LineFault.{LineFault}
use Rattle.rf2_rows.specs.declared.fault.FileFault.{FileFault}
use Rattle.rf2_rows.specs.declared.fault.FileFault.TheVariants as filefault
use Rattle.rf2_rows.specs.declared.shape.Shape.{Shape}
use Rattle.rf2_values.specs.declared.row.Row.{Row}
use Rattle.rf2_values.specs.Text.{further_columns}
use Rattle.rf2_values.specs.Row.{RowValue, Spells, later_columns, line_limit, line_of}
use Rattle.rf2_values.proofs.Lengths.{length-line}
use Rattle.rf2_rows.specs.Line.{header, columns, IsFaultOf}
use Rattle.rf2_rows.specs.File.{InLines, mark, without_mark, lines_in, IsHeader, SpellsEach, shape_with, IsReleaseFile, IsFirstLineFault, IsFaultOfLines, IsFaultOfFile, IsFaultThat}
use Rattle.rf2_rows.proofs.Splits.{IsFree}
use Rattle.rf2_rows.proofs.Clean.{all_clean, line_no_lf}
use Rattle.rf2_rows.proofs.RowLaws.{columns_stand, shape_of, has_own_shape, spells_one_row, spelled_has_no_fault}
use Rattle.rf2_rows.proofs.Lines.{IsPlainLine, lines_are}

-- ---- lines that spell rows are lines

spelled_is_line : (v : RowValue) (text : List ℕ) → Spells v text → IsPlainLine text
spelled_is_line v text s =
    let texts = s.columns.0 in
    let stand = columns_stand (shape_of v) v texts (has_own_shape v) s.is_row s.columns.1 in
    let long = length-line s.columns.1.0 (later_columns v) in
    let some : 0 < length (line_of texts) = subst (λ (ts : List (List ℕ)). 0 < length (line_of ts)) (sym s.columns.1.2) (omega arith) in
    subst IsPlainLine (sym s.columns.2) (record { some = some; no_lf = line_no_lf texts (all_clean (columns (shape_of v)) texts stand) })

all_lines : (shape : Shape) (rows : List RowValue) (texts : List (List ℕ)) → SpellsEach shape rows texts → AllByRecursion IsPlainLine texts
all_lines shape [] [] h = tt
all_lines shape [] (t ∷ ts) h = absurd h
all_lines shape (v ∷ vs) [] h = absurd h
all_lines shape (v ∷ vs) (t ∷ ts) h = (spelled_is_line v t h.0.1, all_lines shape vs ts h.1)

-- ---- the column names

-- each byte is ASCII and no LF
name_test : List ℕ → Bool
name_test [] = true
name_test (x ∷ xs) = (ltb x 128 && not (eqb x 10)) && name_test xs

no_lf_by_test : (xs : List ℕ) → name_test xs ≡ true → IsFree 10 xs
unfolding name_test
no_lf_by_test [] e = λ k x l. absurd (omega arith)
no_lf_by_test (x ∷ xs) e =
    let parts = and_parts (ltb x 128 && not (eqb x 10)) (name_test xs) e in
    All-cons (λ b. eqb b 10 ≡ false) x xs (not-true (eqb x 10) (and_parts (ltb x 128) (not (eqb x 10)) parts.0).1) (no_lf_by_test xs parts.1)

ascii_by_test : (xs : List ℕ) → name_test xs ≡ true → All (λ b. b < 128) xs
unfolding name_test
ascii_by_test [] e = λ k x l. absurd (omega arith)
ascii_by_test (x ∷ xs) e =
    let parts = and_parts (ltb x 128 && not (eqb x 10)) (name_test xs) e in
    All-cons (λ b. b < 128) x xs (ltb-true x 128 (and_parts (ltb x 128) (not (eqb x 10)) parts.0).0) (ascii_by_test xs parts.1)

record IsFirstLine (text : List ℕ) : Type 0 where
  is_line : IsPlainLine text
  utf8 : IsUtf8 text
  short : length text ≤ line_limit
  no_mark : (more : List ℕ) → starts_with nat_eq (text ++ more) mark ≡ false

-- what makes a text column names, as a test
header_test : List ℕ → Bool
unfolding name_test
header_test xs = (name_test xs && ltb (length xs) 65536) && eqb (get_or xs 0 0) 105

tested : (k : Kind) → header_test (header k) ≡ true
unfolding name_test header_test
tested kind.Concept = refl
tested kind.Description = refl
tested kind.Relationship = refl
tested kind.Association = refl
tested kind.Concrete = refl
tested kind.Member = refl

unmarked : (xs more : List ℕ) → get_or xs 0 0 ≡ 105 → starts_with nat_eq (xs ++ more) mark ≡ false
unmarked [] more e = absurd (omega arith)
unmarked (x ∷ xs) more e = ap (λ (b : ℕ). starts_with nat_eq (b ∷ xs ++ more) mark) e

begun : (xs : List ℕ) → get_or xs 0 0 ≡ 105 → 0 < length xs
begun [] e = absurd (omega arith)
begun (x ∷ xs) e = omega arith

-- what passes the test, with more behind it
first_line_with : (xs others : List ℕ) → IsFree 10 others → IsUtf8 others → length (xs ++ others) ≤ line_limit → header_test xs ≡ true → IsFirstLine (xs ++ others)
unfolding header_test
first_line_with xs others free utf8 short e =
    let parts = and_parts (name_test xs && ltb (length xs) 65536) (eqb (get_or xs 0 0) 105) e in
    let front = and_parts (name_test xs) (ltb (length xs) 65536) parts.0 in
    let first : get_or xs 0 0 ≡ 105 = eqb-true (get_or xs 0 0) 105 parts.1 in
    let some = begun xs first in
    let long = length-append xs others in
    record {
      is_line = record {
        some = omega arith;
        no_lf = All-append (λ b. eqb b 10 ≡ false) xs others (no_lf_by_test xs front.0) free;
      };
      utf8 = IsUtf8-append xs others (IsUtf8-from_ascii xs (IsAscii-from_all xs (ascii_by_test xs front.0))) utf8;
      short = short;
      no_mark = λ more. subst (λ (t : List ℕ). starts_with nat_eq t mark ≡ false) (sym (append_assoc xs others more)) (unmarked xs (others ++ more) first);
    }

test_is_short : (xs : List ℕ) → header_test xs ≡ true → length xs ≤ line_limit
unfolding header_test
test_is_short xs e =
    let parts = and_parts (name_test xs && ltb (length xs) 65536) (eqb (get_or xs 0 0) 105) e in
    let front = and_parts (name_test xs) (ltb (length xs) 65536) parts.0 in
    let s : length xs < 65536 = ltb-true (length xs) 65536 front.1 in
    omega arith

-- what passes the test, alone
first_line : (xs text : List ℕ) → header_test xs ≡ true → text ≡ xs → IsFirstLine text
first_line xs text e same =
    let whole : xs ++ [] ≡ xs = append-nil xs in
    let short : length (xs ++ []) ≤ line_limit = subst (λ (t : List ℕ). length t ≤ line_limit) (sym whole) (test_is_short xs e) in
    subst IsFirstLine (whole ∙ sym same) (first_line_with xs [] (λ k x l. absurd (omega arith)) IsUtf8-nil short e)

is_first_line : (k : Kind) (n : ℕ) (text : List ℕ) → IsHeader k n text → IsFirstLine text
is_first_line kind.Concept n text h = first_line (header kind.Concept) text (tested kind.Concept) h.1
is_first_line kind.Description n text h = first_line (header kind.Description) text (tested kind.Description) h.1
is_first_line kind.Relationship n text h = first_line (header kind.Relationship) text (tested kind.Relationship) h.1
is_first_line kind.Association n text h = first_line (header kind.Association) text (tested kind.Association) h.1
is_first_line kind.Concrete n text h = first_line (header kind.Concrete) text (tested kind.Concrete) h.1
is_first_line kind.Member n text h =
    let names = h.1 in
    subst IsFirstLine (sym h.3) (first_line_with (header kind.Member) h.0 (λ k d l. ne_eqb _ 10 (names.no_lf k d l)) names.utf8 (subst (λ (t : List ℕ). length t ≤ line_limit) h.3 h.4) (tested kind.Member))

-- column names say one number of further columns
pub one_further : (k : Kind) (m n : ℕ) (text : List ℕ) → IsHeader k m text → IsHeader k n text → m ≡ n
one_further kind.Concept m n text g h = g.0 ∙ sym h.0
one_further kind.Description m n text g h = g.0 ∙ sym h.0
one_further kind.Relationship m n text g h = g.0 ∙ sym h.0
one_further kind.Association m n text g h = g.0 ∙ sym h.0
one_further kind.Concrete m n text g h = g.0 ∙ sym h.0
one_further kind.Member m n text g h =
    let names : g.0 ≡ h.0 = append_cancel_left (header kind.Member) g.0 h.0 (sym g.3 ∙ h.3) in
    g.2 ∙ ap (λ (t : List ℕ). length (further_columns t)) names ∙ sym h.2

-- ---- the lines of a release file

begins : (t : List ℕ) (ts : List (List ℕ)) (bytes : List ℕ) → InLines (t ∷ ts) bytes → (more : List ℕ) × (bytes ≡ t ++ more)
begins t [] bytes (inl e) = ([], e ∙ sym (append-nil t))
begins t [] bytes (inr h) = (h.0, h.2)
begins t (u ∷ us) bytes h = (h.0 ++ h.1, h.3)

release_lines : (kind : Kind) (rows : List RowValue) (bytes : List ℕ) (h : IsReleaseFile kind rows bytes) → lines_in (without_mark bytes) ≡ h.names ∷ h.texts
release_lines kind rows bytes h =
    let first = is_first_line kind h.further h.names h.are_names in
    let cut : lines_in h.body ≡ h.names ∷ h.texts = lines_are (h.names ∷ h.texts) h.body (first.is_line, all_lines (shape_with kind h.further) rows h.texts h.spelled) h.in_lines in
    let start = begins h.names h.texts h.body h.in_lines in
    let plain : without_mark h.body ≡ h.body = cond-false _ _ _ (ap (λ (x : List ℕ). starts_with nat_eq x mark) start.1 ∙ first.no_mark start.0) in
    elim h.is_front [
      | inl none ↦ ap (λ (x : List ℕ). lines_in (without_mark x)) (h.whole ∙ ap (λ (x : List ℕ). x ++ h.body) none) ∙ ap lines_in plain ∙ cut
      | inr marked ↦ ap (λ (x : List ℕ). lines_in (without_mark x)) (h.whole ∙ ap (λ (x : List ℕ). x ++ h.body) marked) ∙ cut
    ]

-- ---- one list of rows

same_rows : (kind : Kind) (m n : ℕ) (rows others : List RowValue) (texts : List (List ℕ)) → SpellsEach (shape_with kind m) rows texts → SpellsEach (shape_with kind n) others texts → rows ≡ others
same_rows kind m n [] [] [] g h = refl
same_rows kind m n [] [] (t ∷ ts) g h = refl
same_rows kind m n [] (w ∷ ws) [] g h = absurd h
same_rows kind m n [] (w ∷ ws) (t ∷ ts) g h = absurd g
same_rows kind m n (v ∷ vs) [] [] g h = absurd g
same_rows kind m n (v ∷ vs) [] (t ∷ ts) g h = absurd h
same_rows kind m n (v ∷ vs) (w ∷ ws) [] g h = absurd g
same_rows kind m n (v ∷ vs) (w ∷ ws) (t ∷ ts) g h =
    let one : v ≡ w = spells_one_row v w t (g.0.0.0 ∙ sym h.0.0.0) g.0.1 h.0.1 in
    ap (λ (x : RowValue). x ∷ vs) one ∙ ap (λ (x : List RowValue). w ∷ x) (same_rows kind m n vs ws ts g.1 h.1)

pub spells_one_list : (kind : Kind) (rows others : List RowValue) (bytes : List ℕ) → IsReleaseFile kind rows bytes → IsReleaseFile kind others bytes → rows ≡ others
spells_one_list kind rows others bytes g h =
    let both : g.names ∷ g.texts ≡ h.names ∷ h.texts = sym (release_lines kind rows bytes g) ∙ release_lines kind others bytes h in
    let texts : g.texts ≡ h.texts = ap (λ (ts : List (List ℕ)). drop 1 ts) both in
    same_rows kind g.further h.further rows others h.texts (subst (λ (ts : List (List ℕ)). SpellsEach (shape_with kind g.further) rows ts) texts g.spelled) h.spelled

-- ---- no fault

no_fault_among : (shape : Shape) (rows : List RowValue) (before : List (List ℕ)) (text : List ℕ) (after : List (List ℕ)) (f : LineFault) → SpellsEach shape rows (before ++ text ∷ after) → IsFaultOf shape text f → ⊥
no_fault_among shape [] [] text after f h fault = h
no_fault_among shape [] (t ∷ ts) text after f h fault = h
no_fault_among shape (v ∷ vs) [] text after f h fault = spelled_has_no_fault shape v text f h.0.0 h.0.1 fault
no_fault_among shape (v ∷ vs) (t ∷ ts) text after f h fault = no_fault_among shape vs ts text after f h.1 fault

pub no_first_line_fault : (kind : Kind) (n : ℕ) (text : List ℕ) (f : LineFault) → IsHeader kind n text → IsFirstLineFault kind text f → ⊥
no_first_line_fault kind n text f h (inl long) =
    let short = (is_first_line kind n text h).short in
    let over = long.0 in
    omega arith
no_first_line_fault kind n text f h (inr other) =
    elim other.1 [
      | inl bad ↦ bad.0 (is_first_line kind n text h).utf8
      | inr good ↦ good.1 n h
    ]

pub release_file_has_no_fault : (kind : Kind) (rows : List RowValue) (bytes : List ℕ) (n : ℕ) (f : LineFault) → IsReleaseFile kind rows bytes → IsFaultOfFile kind bytes n f → ⊥
release_file_has_no_fault kind rows bytes n f h fault =
    let there : IsFaultOfLines kind (h.names ∷ h.texts) n f = subst (λ (ls : List (List ℕ)). IsFaultOfLines kind ls n f) (release_lines kind rows bytes h) fault in
    elim there [
      | inl first ↦ no_first_line_fault kind h.further h.names f h.are_names first.1
      | inr later ↦
          let same : h.further ≡ later.0 = one_further kind h.further later.0 h.names h.are_names later.1 in
          let spelled : SpellsEach (shape_with kind later.0) rows h.texts = subst (λ (m : ℕ). SpellsEach (shape_with kind m) rows h.texts) same h.spelled in
          let found = later.2 in
          no_fault_among (shape_with kind later.0) rows found.1 found.2 found.3 f (subst (λ (ts : List (List ℕ)). SpellsEach (shape_with kind later.0) rows ts) found.4 spelled) found.6
    ]

-- ---- the one answer

pub only_answer : (kind : Kind) (bytes : List ℕ) (r : Result (Vec Row) FileFault) → IfOk r (λ v. IsReleaseFile kind v.items bytes) → IfErr r (IsFaultThat (IsFaultOfFile kind bytes))
    → (rows : List RowValue) → IsReleaseFile kind rows bytes → MatchResult r (λ v. v.items ≡ rows) (λ e. e ≡ filefault.OutOfMemory)
only_answer kind bytes (Ok v) found fault rows h = spells_one_list kind v.items rows bytes found h
only_answer kind bytes (Err filefault.OutOfMemory) found fault rows h = refl
only_answer kind bytes (Err (filefault.Row n f)) found fault rows h = absurd (release_file_has_no_fault kind rows bytes n f h fault)
