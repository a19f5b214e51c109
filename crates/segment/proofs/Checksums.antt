-- Records that begin with a checksum.
use Rattle.std.proofs.Common.{◌≡◌, ℕ, ◌+◌, ◌-◌, ◌^◌, ◌<◌, ◌≤◌, List, [], ◌∷◌, ◌++◌, suc, length, take, drop, get_or, Option, Some, None, refl, sym, ap, subst, ◌∙◌, append_assoc, arith, inl, inr}
use Rattle.std.specs.Option.{option_map}
use Rattle.std.specs.List.{AllByRecursion}
use Rattle.std.specs.Int.{w32, to_be_bytes, from_be_bytes}
use Rattle.std.proofs.lemmas.List.{length-append, take_at, drop_at, take-append-drop, append_cancel_left, take-append-le, drop-append-le}
use Rattle.std.proofs.lemmas.Bool.{cases_lt}
use Rattle.list_lemmas.proofs.Each.{each_of_parts, each_of_both, each_of_dropped}
use Rattle.list_lemmas.proofs.Parts.{drop_beyond, same_first_and_rest}
use Rattle.rf2_values.specs.declared.row.Kind.{Kind}
use Rattle.rf2_values.specs.Row.{kind_of}
use Rattle.history_model.specs.declared.stamped.StampedRow.{StampedRow}
use Rattle.checksum.specs.declared.form.Form.TheVariants as forms
use Rattle.checksum.specs.Crc32c.{crc32c}
use Rattle.checksum.proofs.ChecksumLaws.{is_number_of_32_bits, one_byte_is_noticed}
use Rattle.segment.specs.declared.raw.RawCommon.{RawCommon}
use Rattle.segment.specs.Records.{Number, field_bytes, spelled, fields_of, common_fields, body_fields, kind_code, record_in, IsStamped, ChangedByteIsNoticed}
use Rattle.segment.specs.Private.Reading.{number_at, fields_at, common_forms, body_forms, raw_common_fields}
use Rattle.segment.specs.Private.Finding.{IsSplit}
use Rattle.segment.proofs.Numbers.{IsBytes, IsBytes-take, IsBytes-drop, number_again, number_length}
use Rattle.segment.proofs.FieldLaws.{number_again_at, number_some}
use Rattle.segment.proofs.RecordLaws.{common_behind, body_behind, row_fits, parts_are, code_kind, behind_head}

-- ---- where the fields of a record end

pub no_common : (bytes : List ℕ) → fields_at common_forms bytes ≡ None → (s : StampedRow) (x : List ℕ) → IsStamped s → bytes ≡ spelled (fields_of s) ++ x → ⊥
no_common bytes none s x is e = let read = ap (fields_at common_forms) e ∙ common_behind s x is in absurd cc

-- what was read of the fields that each record has
pub record Begins (common : RawCommon) (rest x : List ℕ) (s : StampedRow) : Type 0 where
  pub kind : kind_code (kind_of s.row) ≡ common.kind
  pub behind : rest ≡ spelled (body_fields s.row.body) ++ x

pub begins : (bytes : List ℕ) (common : RawCommon) (rest : List ℕ) → fields_at common_forms bytes ≡ Some (raw_common_fields common, rest) → (s : StampedRow) (x : List ℕ) → IsStamped s → bytes ≡ spelled (fields_of s) ++ x → Begins common rest x s
begins bytes common rest read s x is e =
    let both = sym read ∙ ap (fields_at common_forms) e ∙ common_behind s x is in
    let parts = parts_are (raw_common_fields common) (common_fields s) rest (spelled (body_fields s.row.body) ++ x) both in
    let same = parts.0 in
    record { kind = cc; behind = parts.1 }

pub ends_behind : (common : RawCommon) (rest x : List ℕ) (kind : Kind) (s : StampedRow) (found : Option (List ℕ)) → IsStamped s → Begins common rest x s → kind_code kind ≡ common.kind → option_map (λ p. p.1) (fields_at (body_forms kind) rest) ≡ found
    → found ≡ Some x
ends_behind common rest x kind s found is b code read =
    let same : kind ≡ kind_of s.row = code_kind kind (kind_of s.row) (code ∙ sym b.kind) in
    sym read ∙ ap (λ (k : Kind). option_map (λ p. p.1) (fields_at (body_forms k) rest)) same
    ∙ ap (λ (l : List ℕ). option_map (λ p. p.1) (fields_at (body_forms (kind_of s.row)) l)) b.behind
    ∙ ap (option_map (λ p. p.1)) (body_behind s.row.body x (row_fits s.row is.row))

-- ---- what stands before them

pub bytes_all : (l : List ℕ) → IsBytes l → AllByRecursion (λ b. b < 256) l
bytes_all [] fits = tt
bytes_all (x ∷ xs) fits = (fits 0, bytes_all xs (λ i. fits (suc i)))

fields_fit : (bytes : List ℕ) (s : StampedRow) (x : List ℕ) → IsBytes bytes → bytes ≡ record_in forms.Checked s ++ x → IsBytes (spelled (fields_of s))
fields_fit bytes s x fits e =
    let fields = spelled (fields_of s) in
    let behind : take (length fields) (drop 4 bytes) ≡ fields = ap (λ (l : List ℕ). take (length fields) (drop 4 l)) e ∙ ap (take (length fields)) (behind_head forms.Checked s x) ∙ take_at fields x (length fields) refl in
    subst IsBytes behind (IsBytes-take (length fields) (drop 4 bytes) (IsBytes-drop 4 bytes fits))

head_at : (bytes : List ℕ) (s : StampedRow) (x : List ℕ) → IsBytes bytes → bytes ≡ record_in forms.Checked s ++ x → number_at w32 bytes ≡ Some (crc32c (spelled (fields_of s)), spelled (fields_of s) ++ x)
unfolding record_in field_bytes
head_at bytes s x fits e =
    let fields = spelled (fields_of s) in
    let small : crc32c fields < 2 ^ 32 = is_number_of_32_bits fields (bytes_all fields (fields_fit bytes s x fits e)) in
    ap (number_at w32) (e ∙ append_assoc (to_be_bytes w32 (crc32c fields)) fields x) ∙ number_again_at w32 (crc32c fields) (fields ++ x) small

pub no_head : (bytes : List ℕ) → IsBytes bytes → number_at w32 bytes ≡ None → (s : StampedRow) (x : List ℕ) → bytes ≡ record_in forms.Checked s ++ x → ⊥
no_head bytes fits none s x e = let read = sym none ∙ head_at bytes s x fits e in absurd cc

pub record HasHead (head : ℕ) (behind : List ℕ) (s : StampedRow) (x : List ℕ) : Type 0 where
  pub head_is : head ≡ crc32c (spelled (fields_of s))
  pub behind_is : behind ≡ spelled (fields_of s) ++ x

pub has_head : (bytes : List ℕ) (head : ℕ) (behind : List ℕ) → IsBytes bytes → number_at w32 bytes ≡ Some (head, behind) → (s : StampedRow) (x : List ℕ) → bytes ≡ record_in forms.Checked s ++ x → HasHead head behind s x
has_head bytes head behind fits read s x e =
    let parts = parts_are head (crc32c (spelled (fields_of s))) behind (spelled (fields_of s) ++ x) (sym read ∙ head_at bytes s x fits e) in
    record { head_is = parts.0; behind_is = parts.1 }

-- what is cut off before so many bytes are left
pub cut_before : (fields x behind rest : List ℕ) (len : ℕ) → behind ≡ fields ++ x → rest ≡ x → len ≡ length behind - length rest → take len behind ≡ fields
cut_before fields x behind rest len e same len_is =
    let long = ap length e in
    let rest_long = ap length same in
    let len_of : len ≡ length fields = omega (arith, long, rest_long, len_is, length-append fields x) in
    ap (λ (n : ℕ). take n behind) len_of ∙ ap (take (length fields)) e ∙ take_at fields x (length fields) refl

pub split_there : (bytes : List ℕ) (head : ℕ) (behind front rest : List ℕ) → IsBytes bytes → number_at w32 bytes ≡ Some (head, behind) → behind ≡ front ++ rest → crc32c front ≡ head
    → ((s : StampedRow) (x : List ℕ) → IsStamped s → bytes ≡ record_in forms.Checked s ++ x → front ≡ spelled (fields_of s)) → IsSplit forms.Checked bytes front rest
unfolding field_bytes
split_there bytes head behind front rest fits read whole sum only =
    let parts = number_some w32 bytes (head, behind) fits read in
    record {
      whole = parts.whole ∙ ap (λ (l : List ℕ). to_be_bytes w32 head ++ l) whole ∙ sym (append_assoc (to_be_bytes w32 head) front rest) ∙ ap (λ (n : ℕ). (to_be_bytes w32 n ++ front) ++ rest) (sym sum);
      only = only;
    }

-- ---- a byte that was changed

checked_is : (s : StampedRow) → record_in forms.Checked s ≡ to_be_bytes w32 (crc32c (spelled (fields_of s))) ++ spelled (fields_of s)
unfolding record_in field_bytes
checked_is s = refl

-- what stands behind the checksum, and the checksum
behind_sum : (s : StampedRow) → drop 4 (record_in forms.Checked s) ≡ spelled (fields_of s)
behind_sum s = ap (drop 4) (checked_is s) ∙ drop_at (to_be_bytes w32 (crc32c (spelled (fields_of s)))) (spelled (fields_of s)) 4 (number_length w32 (crc32c (spelled (fields_of s))))

sum_of : (s : StampedRow) → take 4 (record_in forms.Checked s) ≡ to_be_bytes w32 (crc32c (spelled (fields_of s)))
sum_of s = ap (take 4) (checked_is s) ∙ take_at (to_be_bytes w32 (crc32c (spelled (fields_of s)))) (spelled (fields_of s)) 4 (number_length w32 (crc32c (spelled (fields_of s))))

pub changed_byte_is_noticed : ChangedByteIsNoticed
changed_byte_is_noticed s other before after byte changed all small is others = elim (cases_lt (length before) 4) [
  | inl short ↦
      let fields : spelled (fields_of s) ≡ spelled (fields_of other) = sym (behind_sum s) ∙ ap (drop 4) is ∙ drop_beyond 4 before after byte changed short ∙ ap (drop 4) (sym others) ∙ behind_sum other in
      let same : record_in forms.Checked s ≡ record_in forms.Checked other = checked_is s ∙ ap (λ (l : List ℕ). to_be_bytes w32 (crc32c l) ++ l) fields ∙ sym (checked_is other) in
      (same_first_and_rest byte changed after after (append_cancel_left before (byte ∷ after) (changed ∷ after) (sym is ∙ same ∙ others))).0
  | inr long ↦
      let parts = each_of_parts (λ b. b < 256) before byte after all in
      let front = drop 4 before in
      let of_s : spelled (fields_of s) ≡ front ++ byte ∷ after = sym (behind_sum s) ∙ ap (drop 4) is ∙ drop-append-le 4 before (byte ∷ after) long in
      let of_other : spelled (fields_of other) ≡ front ++ changed ∷ after = sym (behind_sum other) ∙ ap (drop 4) others ∙ drop-append-le 4 before (changed ∷ after) long in
      let fronts = each_of_dropped (λ b. b < 256) 4 before parts.0 in
      let small_s : crc32c (front ++ byte ∷ after) < 2 ^ 32 = is_number_of_32_bits (front ++ byte ∷ after) (each_of_both (λ b. b < 256) front (byte ∷ after) fronts (parts.1, parts.2)) in
      let small_other : crc32c (front ++ changed ∷ after) < 2 ^ 32 = is_number_of_32_bits (front ++ changed ∷ after) (each_of_both (λ b. b < 256) front (changed ∷ after) fronts (small, parts.2)) in
      let sums : to_be_bytes w32 (crc32c (spelled (fields_of s))) ≡ to_be_bytes w32 (crc32c (spelled (fields_of other))) =
      sym (sum_of s) ∙ ap (take 4) is ∙ take-append-le 4 before (byte ∷ after) long ∙ sym (take-append-le 4 before (changed ∷ after) long) ∙ ap (take 4) (sym others) ∙ sum_of other in
      let numbers : crc32c (front ++ byte ∷ after) ≡ crc32c (front ++ changed ∷ after) =
      sym (number_again w32 (crc32c (front ++ byte ∷ after)) small_s)
      ∙ ap (λ (l : List ℕ). from_be_bytes w32 (to_be_bytes w32 (crc32c l))) (sym of_s) ∙ ap (from_be_bytes w32) sums ∙ ap (λ (l : List ℕ). from_be_bytes w32 (to_be_bytes w32 (crc32c l))) of_other
      ∙ number_again w32 (crc32c (front ++ changed ∷ after)) small_other in
      one_byte_is_noticed front after byte changed fronts parts.2 parts.1 small numbers
]
