-- A changed byte that doesn't say how long a record is leaves it as long as it was.
use Rattle.std.proofs.Common.{◌≡◌, ◌≢◌, ◌⊎◌, inl, inr, ℕ, ◌+◌, ◌-◌, ◌^◌, ◌<◌, ◌≤◌, List, [], ◌∷◌, ◌++◌, length, take, drop, map, Option, Some, None, refl, sym, ap, subst, ◌∙◌, arith, length-append, length-take, length-drop, append_assoc}
use Rattle.std.specs.List.{AllByRecursion}
use Rattle.std.specs.Int.{Width, w8, w16, w32, byte_len, from_be_bytes, to_be_bytes}
use Rattle.std.proofs.lemmas.Bool.{cases_lt}
use Rattle.std.proofs.lemmas.List.{take-append-le, drop-append-le, take_at, drop_at}
use Rattle.list_lemmas.proofs.Each.{each_of_parts, each_of_both, each_of_taken}
use Rattle.list_lemmas.proofs.Parts.{drop_beyond, take_beyond, same_first_and_rest}
use Rattle.rf2_values.specs.Row.{kind_of}
use Rattle.rf2_values.specs.declared.row.Kind.{Kind}
use Rattle.history_model.specs.declared.stamped.StampedRow.{StampedRow}
use Rattle.checksum.specs.declared.form.Form.TheVariants as forms
use Rattle.segment.specs.Records.{Field, Number, Text, field_bytes, spelled, kind_code, common_fields, body_fields, fields_of, head_of, record_in, record_of, IsStamped, SaysLength, IsOfLength, ChangedRecordIsNone}
use Rattle.segment.specs.Private.Reading.{Form, Wide, Counted, form_of, Fits, common_forms, body_forms, fields_at}
use Rattle.segment.proofs.Numbers.{limit, number_length, number_again}
use Rattle.segment.proofs.FieldLaws.{fields_again}
use Rattle.segment.proofs.RecordLaws.{behind_head, code_kind, common_fits, forms_are, length-record_in, parts_are, row_fits, same_behind}
use Rattle.segment.proofs.Checksums.{changed_byte_is_noticed}

-- what stands behind the first of two fields
behind : (first others x : List ℕ) (bytes : List ℕ) (n : ℕ) → (first ++ others) ++ x ≡ bytes → length first ≡ n → others ++ x ≡ drop n bytes
behind first others x bytes n e long = sym (ap (drop n) (sym e ∙ append_assoc first others x) ∙ drop_at first (others ++ x) n long)

front : (first others x : List ℕ) (bytes : List ℕ) (n : ℕ) → (first ++ others) ++ x ≡ bytes → length first ≡ n → first ≡ take n bytes
front first others x bytes n e long = sym (ap (take n) (sym e ∙ append_assoc first others x) ∙ take_at first (others ++ x) n long)

-- fields of the same forms that begin the same bytes are as long
as_long : (fs gs : List Field) (x y : List ℕ) → map form_of fs ≡ map form_of gs → AllByRecursion Fits fs → AllByRecursion Fits gs → spelled fs ++ x ≡ spelled gs ++ y → length (spelled fs) ≡ length (spelled gs)
as_long fs gs x y same fits others e =
    let both : Some (fs, x) ≡ Some (gs, y) = sym (fields_again fs x fits) ∙ ap (fields_at (map form_of fs)) e ∙ ap (λ (l : List Form). fields_at l (spelled gs ++ y)) same ∙ fields_again gs y others in
    let parts = parts_are fs gs x y both in
    ap (λ (l : List Field). length (spelled l)) parts.0

width_is : (w v : Width) → Wide w ≡ Wide v → w ≡ v
width_is w v e = cc

-- bytes behind so many of a longer front
cut : (n : ℕ) (before after : List ℕ) (b : ℕ) → n ≤ length before → drop n (before ++ b ∷ after) ≡ drop n before ++ b ∷ after
cut n before after b le = drop-append-le n before (b ∷ after) le

pub same_room : (fs gs : List Field) (x y before after : List ℕ) (b c : ℕ) → map form_of fs ≡ map form_of gs → AllByRecursion Fits fs → AllByRecursion Fits gs
    → spelled fs ++ x ≡ before ++ b ∷ after → spelled gs ++ y ≡ before ++ c ∷ after → (SaysLength fs (length before) → ⊥) → length (spelled fs) ≡ length (spelled gs)
unfolding field_bytes
same_room [] [] x y before after b c same fits others is also free = refl
same_room [] (g ∷ gs) x y before after b c same fits others is also free = absurd cc
same_room (f ∷ fs) [] x y before after b c same fits others is also free = absurd cc
same_room (Number w n ∷ fs) (Text u ∷ gs) x y before after b c same fits others is also free = absurd cc
same_room (Text t ∷ fs) (Number v m ∷ gs) x y before after b c same fits others is also free = absurd cc
same_room (Number w n ∷ fs) (Number v m ∷ gs) x y before after b c same fits others is also free =
    let widths : w ≡ v = width_is w v (same_first_and_rest (Wide w) (Wide v) (map form_of fs) (map form_of gs) same).0 in
    let rest = (same_first_and_rest (Wide w) (Wide v) (map form_of fs) (map form_of gs) same).1 in
    let long = number_length w n in
    let also_long : length (to_be_bytes v m) ≡ byte_len w = number_length v m ∙ ap byte_len (sym widths) in
    let here = behind (to_be_bytes w n) (spelled fs) x (before ++ b ∷ after) (byte_len w) is long in
    let there = behind (to_be_bytes v m) (spelled gs) y (before ++ c ∷ after) (byte_len w) also also_long in
    let lengths = length-append (to_be_bytes w n) (spelled fs) in
    let also_lengths = length-append (to_be_bytes v m) (spelled gs) in
    elim (cases_lt (length before) (byte_len w)) [
      | inl short ↦ (let on = as_long fs gs x y rest fits.1 others.1 (here ∙ drop_beyond (byte_len w) before after b c short ∙ sym there) in omega (arith, on, lengths, also_lengths, long, also_long))
      | inr far ↦ (let on = same_room fs gs x y (drop (byte_len w) before) after b c rest fits.1 others.1 (here ∙ cut (byte_len w) before after b far) (there ∙ cut (byte_len w) before after c far)
          (λ says. free (far, subst (SaysLength fs) (length-drop (byte_len w) before) says)) in omega (arith, on, lengths, also_lengths, long, also_long))
    ]
same_room (Text t ∷ fs) (Text u ∷ gs) x y before after b c same fits others is also free =
    let rest = (same_first_and_rest Counted Counted (map form_of fs) (map form_of gs) same).1 in
    let n = 2 + length t in
    elim (cases_lt (length before) 2) [
      | inl short ↦ absurd (free (inl short))
      | inr far ↦
          let counts : to_be_bytes w16 (length t) ≡ to_be_bytes w16 (length u) =
          front (to_be_bytes w16 (length t)) (t ++ spelled fs) x (before ++ b ∷ after) 2 (ap (λ (l : List ℕ). l ++ x) (sym (append_assoc (to_be_bytes w16 (length t)) t (spelled fs))) ∙ is) (number_length w16 (length t))
          ∙ take-append-le 2 before (b ∷ after) far ∙ sym (take-append-le 2 before (c ∷ after) far)
          ∙ sym (front (to_be_bytes w16 (length u)) (u ++ spelled gs) y (before ++ c ∷ after) 2 (ap (λ (l : List ℕ). l ++ y) (sym (append_assoc (to_be_bytes w16 (length u)) u (spelled gs))) ∙ also) (number_length w16 (length u))) in
          let lens : length t ≡ length u = sym (number_again w16 (length t) fits.0) ∙ ap (from_be_bytes w16) counts ∙ number_again w16 (length u) others.0 in
          let long : length (to_be_bytes w16 (length t) ++ t) ≡ n = length-append (to_be_bytes w16 (length t)) t ∙ ap (λ (k : ℕ). k + length t) (number_length w16 (length t)) in
          let also_long : length (to_be_bytes w16 (length u) ++ u) ≡ n = length-append (to_be_bytes w16 (length u)) u ∙ ap (λ (k : ℕ). k + length u) (number_length w16 (length u)) ∙ ap (λ (k : ℕ). 2 + k) (sym lens) in
          let here = behind (to_be_bytes w16 (length t) ++ t) (spelled fs) x (before ++ b ∷ after) n is long in
          let there = behind (to_be_bytes w16 (length u) ++ u) (spelled gs) y (before ++ c ∷ after) n also also_long in
          let lengths = length-append (to_be_bytes w16 (length t) ++ t) (spelled fs) in
          let also_lengths = length-append (to_be_bytes w16 (length u) ++ u) (spelled gs) in
          elim (cases_lt (length before) n) [
            | inl near ↦ (let on = as_long fs gs x y rest fits.1 others.1 (here ∙ drop_beyond n before after b c near ∙ sym there) in omega (arith, on, lengths, also_lengths, long, also_long))
            | inr beyond ↦ (let on = same_room fs gs x y (drop n before) after b c rest fits.1 others.1 (here ∙ cut n before after b beyond) (there ∙ cut n before after c beyond)
                (λ says. free (inr (beyond, subst (SaysLength fs) (length-drop n before) says))) in omega (arith, on, lengths, also_lengths, long, also_long))
          ]
    ]

-- ---- a record

fits_append : (fs gs : List Field) → AllByRecursion Fits fs → AllByRecursion Fits gs → AllByRecursion Fits (fs ++ gs)
fits_append [] gs fits others = others
fits_append (f ∷ fs) gs fits others = (fits.0, fits_append fs gs fits.1 others)

fields_fit : (s : StampedRow) → IsStamped s → AllByRecursion Fits (fields_of s)
fields_fit s is = fits_append (common_fields s) (body_fields s.row.body) (common_fits s is) (row_fits s.row is.row)

same_forms : (s t : StampedRow) → kind_of s.row ≡ kind_of t.row → map form_of (fields_of s) ≡ map form_of (fields_of t)
same_forms s t kinds = ap (λ (l : List Form). common_forms ++ l) (forms_are s.row.body ∙ ap body_forms kinds ∙ sym (forms_are t.row.body))

record_room : (s : StampedRow) → length (record_in forms.Checked s) ≡ 4 + length (spelled (fields_of s))
unfolding record_in field_bytes
record_room s =
    let head = to_be_bytes w32 (head_of forms.Checked (spelled (fields_of s))) in
    omega (arith, length-append head (spelled (fields_of s)), number_length w32 (head_of forms.Checked (spelled (fields_of s))))

-- the kind, which is the first byte of the fields
kind_first : (s : StampedRow) (x before after : List ℕ) (b : ℕ) → 1 ≤ length before → spelled (fields_of s) ++ x ≡ before ++ b ∷ after → to_be_bytes w8 (kind_code (kind_of s.row)) ≡ take 1 before
unfolding field_bytes
kind_first s x before after b some e =
    front (to_be_bytes w8 (kind_code (kind_of s.row))) (spelled (drop 1 (fields_of s))) x (before ++ b ∷ after) 1 e (number_length w8 (kind_code (kind_of s.row))) ∙ take-append-le 1 before (b ∷ after) some

module _ (s t : StampedRow) (x y before after : List ℕ) (byte changed : ℕ) (is : IsStamped s) (other : IsStamped t) (free : IsOfLength s (length before) → ⊥)
    (here : record_in forms.Checked s ++ x ≡ before ++ byte ∷ after) (there : record_in forms.Checked t ++ y ≡ before ++ changed ∷ after) where
  of_short : length before < 4 → length (record_in forms.Checked t) ≡ length (record_in forms.Checked s)
  of_short short =
      let same = same_behind s t x y is other (sym (behind_head forms.Checked s x) ∙ ap (drop 4) here ∙ drop_beyond 4 before after byte changed short ∙ ap (drop 4) (sym there) ∙ behind_head forms.Checked t y) in
      ap (λ (r : StampedRow). length (record_in forms.Checked r)) (sym same.0)

  of_long : 4 ≤ length before → length (record_in forms.Checked t) ≡ length (record_in forms.Checked s)
  of_long long =
      let fields = sym (behind_head forms.Checked s x) ∙ ap (drop 4) here ∙ cut 4 before after byte long in
      let others = sym (behind_head forms.Checked t y) ∙ ap (drop 4) there ∙ cut 4 before after changed long in
      let room = length-drop 4 before in
      elim (cases_lt 4 (length before)) [
        | inl more ↦
            let some : 1 ≤ length (drop 4 before) = omega (arith, room, more) in
            let codes : to_be_bytes w8 (kind_code (kind_of s.row)) ≡ to_be_bytes w8 (kind_code (kind_of t.row)) = kind_first s x (drop 4 before) after byte some fields ∙ sym (kind_first t y (drop 4 before) after changed some others) in
            let numbers : kind_code (kind_of s.row) ≡ kind_code (kind_of t.row) =
            sym (number_again w8 (kind_code (kind_of s.row)) (common_fits s is).0) ∙ ap (from_be_bytes w8) codes ∙ number_again w8 (kind_code (kind_of t.row)) (common_fits t other).0 in
            let kinds = code_kind (kind_of s.row) (kind_of t.row) numbers in
            let on = same_room (fields_of s) (fields_of t) x y (drop 4 before) after byte changed (same_forms s t kinds) (fields_fit s is) (fields_fit t other) fields others
            (λ says. free (inr (long, subst (SaysLength (fields_of s)) room says))) in
            omega (arith, on, record_room s, record_room t)
        | inr none ↦ absurd (free (inl (omega (arith, long, none))))
      ]

  same_length : length (record_in forms.Checked t) ≡ length (record_in forms.Checked s)
  same_length = elim (cases_lt (length before) 4) [ inl short ↦ of_short short | inr long ↦ of_long long ]

pub changed_record_is_none : ChangedRecordIsNone
changed_record_is_none s t x y before after byte changed is other all small differs within free here there =
    let n = length (record_in forms.Checked s) in
    let inside : length before < n = omega (arith, within, length-record_in forms.Checked s) in
    let rest = take (n - (length before + 1)) after in
    let one : record_in forms.Checked s ≡ before ++ byte ∷ rest = sym (take_at (record_in forms.Checked s) x n refl) ∙ ap (take n) here ∙ take_beyond n before after byte inside in
    let two : record_in forms.Checked t ≡ before ++ changed ∷ rest =
    sym (take_at (record_in forms.Checked t) y n (same_length s t x y before after byte changed is other free here there)) ∙ ap (take n) there ∙ take_beyond n before after changed inside in
    let parts = each_of_parts (λ b. b < 256) before byte after all in
    differs (changed_byte_is_noticed s t before rest byte changed (each_of_both (λ b. b < 256) before (byte ∷ rest) parts.0 (parts.1, each_of_taken (λ b. b < 256) (n - (length before + 1)) after parts.2)) small one two)
