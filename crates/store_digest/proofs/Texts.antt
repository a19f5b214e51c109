-- Rows of which the texts are the same.
use Rattle.std.proofs.Common.{◌≡◌, ℕ, false, eqb, List, [], ◌∷◌, ◌++◌, refl, sym, ap, subst, ◌∙◌, arith, append_assoc}
use Rattle.std.specs.Prelude.{codes}
use Rattle.std.proofs.lemmas.List.Concat.{flat_map-cons}
use Rattle.std.proofs.lemmas.List.Elements.{All-tail}
use Rattle.rf2_values.specs.declared.row.Kind.{Kind}
use Rattle.rf2_values.specs.declared.row.Kind.TheVariants as kinds
use Rattle.rf2_values.specs.Row.{RowValue, IsVersion, Spells, kind_of, canonical}
use Rattle.rf2_rows.specs.Line.{columns}
use Rattle.rf2_rows.proofs.Splits.{IsFree}
use Rattle.rf2_rows.proofs.Clean.{all_clean, line_no_lf}
use Rattle.rf2_rows.proofs.RowLaws.{spells_one_row, canonical_spells, columns_stand, shape_of, has_own_shape}
use Rattle.line_commands.specs.Spelling.{letter}
use Rattle.line_commands.proofs.FirstWords.{one_letter}
use Rattle.history_model.proofs.Chains.{pinned_stays}
use Rattle.store_digest.specs.Digest.{text_line, text_of, digest_of}
use Rattle.store_digest.specs.Laws.{OneTextOneList, DigestStays}

canonical_is_free : (row : RowValue) → IsVersion row → IsFree 10 (canonical row)
canonical_is_free row is =
    let s = canonical_spells row is in
    let texts = s.columns.0 in
    subst (IsFree 10) (sym s.columns.2) (line_no_lf texts (all_clean (columns (shape_of row)) texts (columns_stand (shape_of row) row texts (has_own_shape row) is s.columns.1)))

-- texts without LF that end with one are the same where what they begin is
ended_alike : (a b x y : List ℕ) → IsFree 10 a → IsFree 10 b → a ++ 10 ∷ x ≡ b ++ 10 ∷ y → (a ≡ b) × (x ≡ y)
ended_alike [] [] x y f g e = (refl, cc)
ended_alike [] (b ∷ bs) x y f g e = absurd (let h = g 0 0 (omega arith) in cc)
ended_alike (a ∷ ds) [] x y f g e = absurd (let h = f 0 0 (omega arith) in cc)
ended_alike (a ∷ ds) (b ∷ bs) x y f g e =
    let later = ended_alike ds bs x y (All-tail (λ b. eqb b 10 ≡ false) a ds f) (All-tail (λ b. eqb b 10 ≡ false) b bs g) cc in
    let same : ds ≡ bs = later.0 in
    let heads : a ≡ b = cc in
    (ap (λ (n : ℕ). n ∷ ds) heads ∙ ap (λ (ns : List ℕ). b ∷ ns) same, later.1)

-- a letter is one byte
letter_byte : (kind : Kind) → (b : ℕ) × (letter kind ≡ b ∷ [])
letter_byte kinds.Concept = (67, refl)
letter_byte kinds.Description = (68, refl)
letter_byte kinds.Relationship = (82, refl)
letter_byte kinds.Association = (65, refl)
letter_byte kinds.Concrete = (86, refl)
letter_byte kinds.Member = (77, refl)

-- a text begins with the byte of a letter, a space, and a row's line
begins : (row : RowValue) (rows : List RowValue) → text_of (row ∷ rows) ≡ (letter_byte (kind_of row)).0 ∷ 32 ∷ (canonical row ++ 10 ∷ text_of rows)
begins row rows =
    flat_map-cons text_line row rows
    ∙ ap (λ t. (t ++ codes " " ++ canonical row ++ 10 ∷ []) ++ text_of rows) (letter_byte (kind_of row)).1
    ∙ ap (λ t. (letter_byte (kind_of row)).0 ∷ 32 ∷ t) (append_assoc (canonical row) (10 ∷ []) (text_of rows))

byte_or : ℕ → List ℕ → ℕ
byte_or n [] = n
byte_or n (b ∷ bs) = b

pub one_text_one_list : OneTextOneList
unfolding letter_byte byte_or
one_text_one_list [] [] all each e = refl
one_text_one_list [] (row ∷ rows) all each e = absurd (let h = e ∙ begins row rows in cc)
one_text_one_list (row ∷ rows) [] all each e = absurd (let h = sym e ∙ begins row rows in cc)
one_text_one_list (row ∷ rows) (other ∷ others) all each e =
    let f = sym (begins row rows) ∙ e ∙ begins other others in
    let letters : letter (kind_of row) ≡ letter (kind_of other) = (letter_byte (kind_of row)).1 ∙ ap (λ t. byte_or 0 t ∷ []) f ∙ sym (letter_byte (kind_of other)).1 in
    let kinds_are = one_letter (kind_of row) (kind_of other) letters in
    let lines = ended_alike (canonical row) (canonical other) (text_of rows) (text_of others) (canonical_is_free row all.0) (canonical_is_free other each.0) cc in
    let one : row ≡ other = spells_one_row row other (canonical other) kinds_are (subst (λ t. Spells row t) lines.0 (canonical_spells row all.0)) (canonical_spells other each.0) in
    ap (λ x. x ∷ rows) one ∙ ap (λ xs. other ∷ xs) (one_text_one_list rows others all.1 each.1 lines.1)

pub digest_stays : DigestStays
digest_stays h release pin is le = ap digest_of (pinned_stays h release pin is le)
