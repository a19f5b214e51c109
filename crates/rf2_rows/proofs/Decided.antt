-- Each column's text may stand there or has a fault, each line spells a row or has a fault, and each file is a release file or has a fault.
use Rattle.std.proofs.Common.{◌≡◌, ◌≢◌, ℕ, zero, suc, ◌+◌, ◌*◌, ◌/◌, ◌%◌, ◌<◌, ◌≤◌, ◌^◌, ◌⊎◌, Bool, true, false, List, [], ◌∷◌, length, get_or, Option, Some, None, refl, sym, ap, subst, ◌∙◌, arith, inl, inr, All, take, drop, ◌++◌, take-append-drop}
use Rattle.std.specs.Prelude.{decimal, cond, is_some, slice_index, replicate}
use Rattle.std.specs.List.{list_all, AllByRecursion}
use Rattle.std.specs.Str.{IsUtf8, is_utf8, all_ascii_digits}
use Rattle.std.specs.Str.Parse.{digits_value}
use Rattle.std.specs.Int.{from_be_bytes, w128}
use Rattle.std.proofs.lemmas.Bool.{both_ways, cases_Bool, cases_eq, cases_lt}
use Rattle.std.proofs.lemmas.Bool.Decides.{nat_tests}
use Rattle.std.proofs.lemmas.List.{take_at, append_cancel_left}
use Rattle.std.proofs.lemmas.List.Elements.{All-cons}
use Rattle.std.proofs.lemmas.List.Splits.{join_with_byte-slice_split}
use Rattle.std.proofs.lemmas.Str.{IsUtf8-from_is_utf8, is_utf8-from_IsUtf8}
use Rattle.std.proofs.lemmas.Str.Parse.{IsNumeralModel, numerals_by_value, tells_all_ascii_digits}
use Rattle.std.proofs.lemmas.Fmt.{decimal_nonempty, digits_decimal, digits_value-decimal, decimal-digits_value, decimal_injective}
use Rattle.uuid.specs.Text.{parsed, has_hyphens, digits_of, hyphen_place, is_hex_digit, value_of, byte_of_digits, by_index}
use Rattle.uuid.proofs.TextLemmas.{by_index_length, by_index_at}
use Rattle.rf2_values.specs.declared.sctid.Class.{Class}
use Rattle.rf2_values.specs.declared.sctid.Class.TheVariants as class
use Rattle.rf2_values.specs.declared.row.Kind.{Kind}
use Rattle.rf2_values.specs.declared.row.Kind.TheVariants as kind
use Rattle.rf2_values.specs.declared.row.Body.{Body}
use Rattle.rf2_values.specs.declared.row.Body.TheVariants as body
use Rattle.rf2_values.specs.Sctid.{IsSctid, check_digits, class_of}
use Rattle.rf2_values.specs.Time.{IsTime}
use Rattle.rf2_values.specs.Text.{IsText, IsColumn, IsFurther, further_columns}
use Rattle.rf2_values.specs.Private.{tabbed}
use Rattle.rf2_values.specs.Member.{IsMemberByte}
use Rattle.rf2_values.specs.Row.{RowValue, version, IsVersion, IsOfClass, IsConcept, IsComponent, IsIdOf, IsBody, Spells, SpellsColumns, SpellsId, kind_of, kind_of_body, id_text, later_columns, body_columns, flag, line_limit, line_of}
use Rattle.rf2_values.proofs.Decimals.{decimal_is_plain, time_below}
use Rattle.rf2_values.proofs.FurtherColumns.{columns_are_further, further_tabbed}
use Rattle.rf2_values.proofs.Lengths.{length-line}
use Rattle.rf2_rows.specs.declared.fault.LineFault.{LineFault}
use Rattle.rf2_rows.specs.declared.fault.LineFault.TheVariants as fault
use Rattle.rf2_rows.specs.declared.shape.Shape.{Shape}
use Rattle.rf2_rows.specs.Line.{Column, Identifier, Time, Active, ConceptReference, ComponentReference, Number, Text, Any, SpellsSome, MayStand, HasClassFault, HasFault, FirstFault, columns, own_columns, columns_of, header, HasShape, IsFaultOf}
use Rattle.rf2_rows.specs.Private.{AllStand}
use Rattle.rf2_rows.specs.File.{IsHeader, SpellsEach, shape_with, IsReleaseFile, IsFirstLineFault, IsFaultOfRows, IsFaultOfLines, IsFaultOfFile, lines_in, without_mark}
use Rattle.rf2_rows.proofs.Faults.{id_length}
use Rattle.rf2_rows.proofs.Files.{is_release_file}
use Rattle.rf2_rows.proofs.RowLaws.{columns_len}

-- ---- facts that hold or don't

abbrev Decided : Type 0 → Type 0
Decided P = P ⊎ (P → ⊥)

both : {P Q : Type 0} → Decided P → Decided Q → Decided (P × Q)
both (inl p) (inl q) = inl (p, q)
both (inl p) (inr q) = inr (λ h. q h.1)
both (inr p) q = inr (λ h. p h.0)

either : {P Q : Type 0} → Decided P → Decided Q → Decided (P ⊎ Q)
either (inl p) q = inl (inl p)
either (inr p) (inl q) = inl (inr q)
either (inr p) (inr q) = inr (λ h. elim h [ inl a ↦ p a | inr b ↦ q b ])

at_most : (m n : ℕ) → Decided (m ≤ n)
at_most m n = elim (cases_lt n m) [ inl over ↦ inr (λ (h : m ≤ n). omega arith) | inr le ↦ inl le ]

below : (m n : ℕ) → Decided (m < n)
below m n = elim (cases_lt m n) [ inl lt ↦ inl lt | inr le ↦ inr (λ (h : m < n). omega arith) ]

all_decided : (P : ℕ → Type 0) → ((n : ℕ) → Decided (P n)) → (xs : List ℕ) → Decided (All P xs)
all_decided P decide [] = inl (λ k d l. absurd (omega arith))
all_decided P decide (x ∷ xs) =
    elim (both (decide x) (all_decided P decide xs)) [
      | inl h ↦ inl (All-cons P x xs h.0 h.1)
      | inr wrong ↦ inr (λ (h : All P (x ∷ xs)). wrong (h 0 0 (omega arith), λ k d l. h (suc k) d (omega arith)))
    ]

same_list : (xs ys : List ℕ) → Decided (xs ≡ ys)
same_list [] [] = inl refl
same_list [] (y ∷ ys) = inr (λ e. let n : ◌≡◌ {A = ℕ} 0 (length (y ∷ ys)) = ap length e in absurd (omega arith))
same_list (x ∷ xs) [] = inr (λ e. let n : ◌≡◌ {A = ℕ} (length (x ∷ xs)) 0 = ap length e in absurd (omega arith))
same_list (x ∷ xs) (y ∷ ys) =
    elim (both (cases_eq x y) (same_list xs ys)) [
      | inl h ↦ inl (ap (λ (z : ℕ). z ∷ xs) h.0 ∙ ap (λ (zs : List ℕ). y ∷ zs) h.1)
      | inr wrong ↦ inr (λ e. wrong (cc, cc))
    ]

utf8 : (bytes : List ℕ) → Decided (IsUtf8 bytes)
utf8 bytes =
    elim (cases_Bool (is_utf8 bytes)) [
      | inl right ↦ inl (IsUtf8-from_is_utf8 bytes right)
      | inr wrong ↦ inr (λ h. both_ways (is_utf8 bytes) wrong (is_utf8-from_IsUtf8 bytes h))
    ]

-- ---- numbers that a text spells

tests : IsNumeralModel (λ ds. all_ascii_digits ds ≡ true) (digits_value 10)
tests = numerals_by_value (λ ds. all_ascii_digits ds ≡ true) tells_all_ascii_digits

-- no zero leads but that of `0`
abbrev NoZero : List ℕ → Type 0
NoZero text = get_or text 0 0 ≡ 48 → length text ≡ 1

no_zero : (text : List ℕ) → Decided (NoZero text)
no_zero text =
    elim (cases_eq (get_or text 0 0) 48) [
      | inr other ↦ inl (λ e. absurd (other e))
      | inl nought ↦ elim (cases_eq (length text) 1) [ inl one ↦ inl (λ _. one) | inr more ↦ inr (λ h. more (h nought)) ]
    ]

numeral : (text : List ℕ) → ((n : ℕ) × (n < 2 ^ 64) × (text ≡ decimal n)) ⊎ ((n : ℕ) → n < 2 ^ 64 → text ≡ decimal n → ⊥)
numeral text =
    elim (cases_Bool (all_ascii_digits text)) [
      | inr wrong ↦ inr (λ n lt e. both_ways (all_ascii_digits text) wrong (subst (λ (t : List ℕ). all_ascii_digits t ≡ true) (sym e) (digits_decimal tests n lt)))
      | inl digits ↦
          elim (cases_lt 0 (length text)) [
            | inr none ↦ inr (λ n lt e. let some = decimal_nonempty n lt in let long : length text ≡ length (decimal n) = ap length e in omega arith)
            | inl some ↦
                elim (cases_lt (digits_value 10 text) (2 ^ 64)) [
                  | inr big ↦ inr (λ n lt e. let value : digits_value 10 text ≡ n = ap (λ (t : List ℕ). digits_value 10 t) e ∙ digits_value-decimal tests n lt in omega arith)
                  | inl small ↦
                      elim (no_zero text) [
                        | inl plain ↦ inl (digits_value 10 text, small, sym (decimal-digits_value tests text digits some plain small))
                        | inr nought ↦ inr (λ n lt e. nought (subst NoZero (sym e) (decimal_is_plain n lt).no_zero))
                      ]
                ]
          ]
    ]

spelled : (P : ℕ → Type 0) → ((n : ℕ) → P n → n < 2 ^ 64) → ((n : ℕ) → Decided (P n)) → (text : List ℕ) → Decided (SpellsSome P text)
spelled P small decide text =
    elim (numeral text) [
      | inr none ↦ inr (λ h. none h.0 (small h.0 h.1) h.2)
      | inl found ↦
          elim (decide found.0) [
            | inl is ↦ inl (found.0, is, found.2)
            | inr isnt ↦ inr (λ h. isnt (subst P (decimal_injective h.0 found.0 (small h.0 h.1) found.1 (sym h.2 ∙ found.2)) h.1))
          ]
    ]

-- ---- identifiers, days, flags, texts

is_sctid : (n : ℕ) → Decided (IsSctid n)
is_sctid n =
    elim (both (at_most (10 ^ 5) n) (both (below n (10 ^ 18)) (cases_eq (check_digits n) 0))) [
      | inl h ↦ inl (record { low = h.0; high = h.1.0; checked = h.1.1 })
      | inr wrong ↦ inr (λ h. wrong (h.low, (h.high, h.checked)))
    ]

code : Option Class → ℕ
code None = 0
code (Some class.Concept) = 1
code (Some class.Description) = 2
code (Some class.Relationship) = 3

coded : ℕ → Option Class
coded zero = None
coded (suc zero) = Some class.Concept
coded (suc (suc zero)) = Some class.Description
coded (suc (suc (suc n))) = Some class.Relationship

coded-code : (o : Option Class) → coded (code o) ≡ o
unfolding code coded
coded-code None = refl
coded-code (Some class.Concept) = refl
coded-code (Some class.Description) = refl
coded-code (Some class.Relationship) = refl

same_class : (o p : Option Class) → Decided (o ≡ p)
same_class o p =
    elim (cases_eq (code o) (code p)) [
      | inl e ↦ inl (sym (coded-code o) ∙ ap coded e ∙ coded-code p)
      | inr other ↦ inr (λ e. other (ap code e))
    ]

is_of_class : (c : Class) (n : ℕ) → Decided (IsOfClass c n)
is_of_class c n =
    elim (both (is_sctid n) (same_class (class_of n) (Some c))) [
      | inl h ↦ inl (record { sctid = h.0; «class» = h.1 })
      | inr wrong ↦ inr (λ h. wrong (h.sctid, h.«class»))
    ]

is_component : (n : ℕ) → Decided (IsComponent n)
is_component n =
    elim (cases_Bool (is_some (class_of n))) [
      | inr none ↦ inr (λ h. both_ways (is_some (class_of n)) none h.some_class)
      | inl some ↦ elim (is_sctid n) [ inl id ↦ inl (record { sctid = id; some_class = some }) | inr wrong ↦ inr (λ h. wrong h.sctid) ]
    ]

is_time : (t : ℕ) → Decided (IsTime t)
is_time t =
    elim (both (both (at_most 1000 (t / 10000)) (at_most (t / 10000) 9999)) (both (both (at_most 1 (t / 100 % 100)) (at_most (t / 100 % 100) 12)) (both (at_most 1 (t % 100)) (at_most (t % 100) 31)))) [
      | inl h ↦ inl (record { year_from = h.0.0; year_to = h.0.1; month_from = h.1.0.0; month_to = h.1.0.1; day_from = h.1.1.0; day_to = h.1.1.1 })
      | inr wrong ↦ inr (λ h. wrong ((h.year_from, h.year_to), ((h.month_from, h.month_to), (h.day_from, h.day_to))))
    ]

class_small : (c : Class) (n : ℕ) → IsOfClass c n → n < 2 ^ 64
class_small c n h = let high = h.sctid.high in omega arith

component_small : (n : ℕ) → IsComponent n → n < 2 ^ 64
component_small n h = let high = h.sctid.high in omega arith

neither : (text : List ℕ) (b : Bool) → (text ≡ flag false → ⊥) → (text ≡ flag true → ⊥) → text ≡ flag b → ⊥
neither text false nought one e = nought e
neither text true nought one e = one e

is_flag : (text : List ℕ) → Decided (MayStand Active text)
is_flag text =
    elim (same_list text (flag false)) [
      | inl e ↦ inl (false, e)
      | inr nought ↦ elim (same_list text (flag true)) [ inl e ↦ inl (true, e) | inr one ↦ inr (λ h. neither text h.0 nought one h.1) ]
    ]

other_than : (c b : ℕ) → Decided (b ≢ c)
other_than c b = elim (cases_eq b c) [ inl e ↦ inr (λ n. n e) | inr n ↦ inl n ]

is_text : (text : List ℕ) → Decided (IsText text)
is_text text =
    elim (both (both (below 0 (length text)) (utf8 text)) (both (all_decided (λ b. b ≢ 9) (other_than 9) text) (all_decided (λ b. b ≢ 10) (other_than 10) text))) [
      | inl h ↦ inl (record { some = h.0.0; utf8 = h.0.1; no_tab = h.1.0; no_lf = h.1.1 })
      | inr wrong ↦ inr (λ h. wrong ((h.some, h.utf8), (h.no_tab, h.no_lf)))
    ]

is_column : (text : List ℕ) → Decided (IsColumn text)
is_column text =
    elim (both (utf8 text) (both (all_decided (λ b. b ≢ 9) (other_than 9) text) (all_decided (λ b. b ≢ 10) (other_than 10) text))) [
      | inl h ↦ inl (record { utf8 = h.0; no_tab = h.1.0; no_lf = h.1.1 })
      | inr wrong ↦ inr (λ h. wrong (h.utf8, (h.no_tab, h.no_lf)))
    ]

-- ---- member ids

is_member_byte : (b : ℕ) → Decided (IsMemberByte b)
is_member_byte b =
    either (either (either (both (at_most 48 b) (at_most b 57)) (both (at_most 65 b) (at_most b 70))) (both (at_most 97 b) (at_most b 102))) (cases_eq b 45)

-- a digit's value, and 0 for a hyphen
value_small : (b : ℕ) → IsMemberByte b → value_of b < 16
value_small b h = grind (arith, nat_tests)

sixteen : (a0 a1 a2 a3 a4 a5 a6 a7 a8 a9 a10 a11 a12 a13 a14 a15 : ℕ)
    → a0 < 256 → a1 < 256 → a2 < 256 → a3 < 256 → a4 < 256 → a5 < 256 → a6 < 256 → a7 < 256 → a8 < 256 → a9 < 256 → a10 < 256 → a11 < 256 → a12 < 256 → a13 < 256 → a14 < 256 → a15 < 256
    → a0 * 256 ^ 15 + a1 * 256 ^ 14 + a2 * 256 ^ 13 + a3 * 256 ^ 12 + a4 * 256 ^ 11 + a5 * 256 ^ 10 + a6 * 256 ^ 9 + a7 * 256 ^ 8 + a8 * 256 ^ 7 + a9 * 256 ^ 6 + a10 * 256 ^ 5 + a11 * 256 ^ 4 + a12 * 256 ^ 3 + a13 * 256 ^ 2 + a14 * 256 ^ 1 + a15 < 2 ^ 128
sixteen a0 a1 a2 a3 a4 a5 a6 a7 a8 a9 a10 a11 a12 a13 a14 a15 h0 h1 h2 h3 h4 h5 h6 h7 h8 h9 h10 h11 h12 h13 h14 h15 = omega arith

number_small : (bytes : List ℕ) → ((i : ℕ) → i < 16 → slice_index bytes i < 256) → from_be_bytes w128 bytes < 2 ^ 128
number_small bytes h =
    sixteen _ _ _ _ _ _ _ _ _ _ _ _ _ _ _ _ (h 0 (omega arith)) (h 1 (omega arith)) (h 2 (omega arith)) (h 3 (omega arith)) (h 4 (omega arith)) (h 5 (omega arith)) (h 6 (omega arith)) (h 7 (omega arith)) (h 8 (omega arith)) (h 9 (omega arith)) (h 10 (omega arith)) (h 11 (omega arith)) (h 12 (omega arith)) (h 13 (omega arith)) (h 14 (omega arith)) (h 15 (omega arith))

place_small : (k : ℕ) → k < 32 → hyphen_place k < 36
place_small k lt = grind (arith, nat_tests)

byte_small : (text : List ℕ) → length text ≡ 36 → All IsMemberByte text → (j : ℕ) → j < 16 → byte_of_digits (digits_of text) j < 256
byte_small text long plain j lt =
    let digit : (k : ℕ) → k < 32 → value_of (slice_index (digits_of text) k) < 16 = λ k inside.
    let at : slice_index (digits_of text) k ≡ slice_index text (hyphen_place k) = by_index_at 32 (λ i. slice_index text (hyphen_place i)) k 0 inside in
    let there = place_small k inside in
    subst (λ (b : ℕ). value_of b < 16) (sym at) (value_small (slice_index text (hyphen_place k)) (plain (hyphen_place k) 0 (omega arith))) in
    let high = digit (2 * j) (omega arith) in
    let low = digit (2 * j + 1) (omega arith) in
    omega arith

some_only : (a b : Bool) (x y : List ℕ) → cond a (cond b (Some x) None) None ≡ Some y → x ≡ y
some_only true true x y e = cc
some_only true false x y e = absurd cc
some_only false b x y e = absurd cc

parsed_bytes : (text bytes : List ℕ) → length text ≡ 36 → parsed text ≡ Some bytes → by_index 16 (byte_of_digits (digits_of text)) ≡ bytes
parsed_bytes text bytes long e =
    let hex : length (digits_of text) ≡ 32 = by_index_length 32 _ in
    some_only (has_hyphens text) (list_all is_hex_digit (digits_of text)) _ bytes (rw (long, hex) at e)

some_or_none : (o : Option (List ℕ)) → ((x : List ℕ) × (o ≡ Some x)) ⊎ (o ≡ None)
some_or_none None = inr refl
some_or_none (Some x) = inl (x, refl)

none_is_some : (x : List ℕ) → (None ≡ Some x) → ⊥
none_is_some x e = absurd cc

is_member : (text : List ℕ) → Decided (MayStand (Identifier kind.Association) text)
is_member text =
    elim (both (cases_eq (length text) 36) (all_decided IsMemberByte is_member_byte text)) [
      | inr wrong ↦ inr (λ h. wrong (h.2.long, h.2.plain))
      | inl form ↦
          elim (some_or_none (parsed text)) [
            | inr none ↦ inr (λ h. none_is_some h.2.value.0 (sym none ∙ h.2.value.1))
            | inl found ↦
                let bytes = parsed_bytes text found.0 form.0 found.1 in
                let each : (i : ℕ) → i < 16 → slice_index found.0 i < 256 = λ i lt.
                subst (λ (bs : List ℕ). slice_index bs i < 256) bytes (subst (λ (b : ℕ). b < 256) (sym (by_index_at 16 (byte_of_digits (digits_of text)) i 0 lt)) (byte_small text form.0 form.1 i lt)) in
                inl (from_be_bytes w128 found.0, number_small found.0 each, record { long = form.0; plain = form.1; value = (found.0, found.1, refl) })
          ]
    ]

-- ---- columns

of_class : (c : Class) (text : List ℕ) → SpellsSome (IsOfClass c) text ⊎ ((f : LineFault) × HasClassFault c text f)
of_class c text =
    elim (spelled (IsOfClass c) (class_small c) (is_of_class c) text) [
      | inl h ↦ inl h
      | inr wrong ↦
          elim (spelled IsSctid (λ n h. let high = h.high in omega arith) is_sctid text) [
            | inl id ↦ inr (fault.Partition, inr (id, wrong, refl))
            | inr none ↦ inr (fault.Id, inl (none, refl))
          ]
    ]

faulty : {P : Type 0} (x : LineFault) → Decided P → P ⊎ ((f : LineFault) × ((P → ⊥) × (f ≡ x)))
faulty x (inl h) = inl h
faulty x (inr wrong) = inr (x, (wrong, refl))

column : (c : Column) (text : List ℕ) → MayStand c text ⊎ ((f : LineFault) × HasFault c text f)
column (Identifier kind.Concept) text = of_class class.Concept text
column (Identifier kind.Description) text = of_class class.Description text
column (Identifier kind.Relationship) text = of_class class.Relationship text
column (Identifier kind.Association) text = faulty fault.MemberId (is_member text)
column (Identifier kind.Concrete) text = of_class class.Relationship text
column (Identifier kind.Member) text = faulty fault.MemberId (is_member text)
column Time text = faulty fault.Time (spelled IsTime time_below is_time text)
column Active text = faulty fault.Active (is_flag text)
column ConceptReference text = faulty fault.Reference (spelled IsConcept (class_small class.Concept) (is_of_class class.Concept) text)
column ComponentReference text = faulty fault.Reference (spelled IsComponent component_small is_component text)
column Number text = faulty fault.Number (spelled (λ n. n < 2 ^ 32) (λ n lt. omega arith) (λ n. below n (2 ^ 32)) text)
column Text text = faulty fault.EmptyText (is_text text)
column Any text = faulty fault.EmptyText (is_column text)

pub each_column : (cs : List Column) (ts : List (List ℕ)) → length ts ≡ length cs → AllStand cs ts ⊎ ((f : LineFault) × FirstFault cs ts f)
unfolding FirstFault
each_column [] [] e = inl tt
each_column [] (t ∷ ts) e = absurd (omega arith)
each_column (c ∷ cs) [] e = absurd (omega arith)
each_column (c ∷ cs) (t ∷ ts) e =
    elim (column c t) [
      | inr bad ↦ inr (bad.0, inl bad.1)
      | inl stands ↦
          elim (each_column cs ts (omega arith)) [
            | inl all ↦ inl (stands, all)
            | inr later ↦ inr (later.0, inr (stands, later.1))
          ]
    ]

-- ---- the row of columns that may stand

-- the first text, and what is known of it and of the others
first : (c : Column) (cs : List Column) (ts : List (List ℕ)) → AllStand (c ∷ cs) ts → (t : List ℕ) × (rest : List (List ℕ)) × (ts ≡ t ∷ rest) × MayStand c t × AllStand cs rest
first c cs [] h = absurd h
first c cs (t ∷ rest) h = (t, rest, refl, h.0, h.1)

no_more : (ts : List (List ℕ)) → AllStand [] ts → ts ≡ []
no_more [] h = refl
no_more (t ∷ ts) h = absurd h

consed : (ts rest ds : List (List ℕ)) (t d : List ℕ) → ts ≡ t ∷ rest → t ≡ d → rest ≡ ds → ts ≡ d ∷ ds
consed ts rest ds t d whole head tail = whole ∙ ap (λ (x : List ℕ). x ∷ rest) head ∙ ap (λ (xs : List (List ℕ)). d ∷ xs) tail

-- texts that may stand in columns of any meaning are columns
pub any_columns : (n : ℕ) (ts : List (List ℕ)) → AllStand (replicate n Any) ts → AllByRecursion IsColumn ts
any_columns zero [] h = tt
any_columns zero (t ∷ ts) h = absurd h
any_columns (suc n) [] h = absurd h
any_columns (suc n) (t ∷ ts) h = (h.0, any_columns n ts h.1)

own : (k : Kind) (n : ℕ) (ts : List (List ℕ)) → AllStand (own_columns (shape_with k n)) ts → (b : Body) × (kind_of_body b ≡ k) × IsBody b × (ts ≡ body_columns b)
own kind.Concept n ts h =
    let a = first ConceptReference [] ts h in
    (body.Concept (record { definition_status = a.3.0 }), refl, a.3.1, consed _ _ _ _ _ a.2 a.3.2 (no_more a.1 a.4))
own kind.Description n ts h =
    let a = first ConceptReference (Text ∷ ConceptReference ∷ Text ∷ ConceptReference ∷ []) ts h in
    let b = first Text (ConceptReference ∷ Text ∷ ConceptReference ∷ []) a.1 a.4 in
    let c = first ConceptReference (Text ∷ ConceptReference ∷ []) b.1 b.4 in
    let d = first Text (ConceptReference ∷ []) c.1 c.4 in
    let e = first ConceptReference [] d.1 d.4 in (
      body.Description (record { concept = a.3.0; language_code = b.0; type_id = c.3.0; term = d.0; case_significance = e.3.0 }),
      refl,
      (a.3.1, b.3, c.3.1, d.3, e.3.1),
      consed _ _ _ _ _ a.2 a.3.2 (consed _ _ _ _ _ b.2 refl (consed _ _ _ _ _ c.2 c.3.2 (consed _ _ _ _ _ d.2 refl (consed _ _ _ _ _ e.2 e.3.2 (no_more e.1 e.4))))),
    )
own kind.Relationship n ts h =
    let a = first ConceptReference (ConceptReference ∷ Number ∷ ConceptReference ∷ ConceptReference ∷ ConceptReference ∷ []) ts h in
    let b = first ConceptReference (Number ∷ ConceptReference ∷ ConceptReference ∷ ConceptReference ∷ []) a.1 a.4 in
    let c = first Number (ConceptReference ∷ ConceptReference ∷ ConceptReference ∷ []) b.1 b.4 in
    let d = first ConceptReference (ConceptReference ∷ ConceptReference ∷ []) c.1 c.4 in
    let e = first ConceptReference (ConceptReference ∷ []) d.1 d.4 in
    let f = first ConceptReference [] e.1 e.4 in (
      body.Relationship (record { source = a.3.0; destination = b.3.0; group = c.3.0; type_id = d.3.0; characteristic_type = e.3.0; modifier = f.3.0 }),
      refl,
      (a.3.1, b.3.1, c.3.1, d.3.1, e.3.1, f.3.1),
      consed _ _ _ _ _ a.2 a.3.2 (consed _ _ _ _ _ b.2 b.3.2 (consed _ _ _ _ _ c.2 c.3.2 (consed _ _ _ _ _ d.2 d.3.2 (consed _ _ _ _ _ e.2 e.3.2 (consed _ _ _ _ _ f.2 f.3.2 (no_more f.1 f.4)))))),
    )
own kind.Association n ts h =
    let a = first ConceptReference (ComponentReference ∷ ComponentReference ∷ []) ts h in
    let b = first ComponentReference (ComponentReference ∷ []) a.1 a.4 in
    let c = first ComponentReference [] b.1 b.4 in (
      body.Association (record { refset = a.3.0; referenced = b.3.0; target = c.3.0 }),
      refl,
      (a.3.1, b.3.1, c.3.1),
      consed _ _ _ _ _ a.2 a.3.2 (consed _ _ _ _ _ b.2 b.3.2 (consed _ _ _ _ _ c.2 c.3.2 (no_more c.1 c.4))),
    )
own kind.Concrete n ts h =
    let a = first ConceptReference (Text ∷ Number ∷ ConceptReference ∷ ConceptReference ∷ ConceptReference ∷ []) ts h in
    let b = first Text (Number ∷ ConceptReference ∷ ConceptReference ∷ ConceptReference ∷ []) a.1 a.4 in
    let c = first Number (ConceptReference ∷ ConceptReference ∷ ConceptReference ∷ []) b.1 b.4 in
    let d = first ConceptReference (ConceptReference ∷ ConceptReference ∷ []) c.1 c.4 in
    let e = first ConceptReference (ConceptReference ∷ []) d.1 d.4 in
    let f = first ConceptReference [] e.1 e.4 in (
      body.Concrete (record { source = a.3.0; value = b.0; group = c.3.0; type_id = d.3.0; characteristic_type = e.3.0; modifier = f.3.0 }),
      refl,
      (a.3.1, b.3, c.3.1, d.3.1, e.3.1, f.3.1),
      consed _ _ _ _ _ a.2 a.3.2 (consed _ _ _ _ _ b.2 refl (consed _ _ _ _ _ c.2 c.3.2 (consed _ _ _ _ _ d.2 d.3.2 (consed _ _ _ _ _ e.2 e.3.2 (consed _ _ _ _ _ f.2 f.3.2 (no_more f.1 f.4)))))),
    )
own kind.Member n ts h =
    let a = first ConceptReference (ComponentReference ∷ replicate n Any) ts h in
    let b = first ComponentReference (replicate n Any) a.1 a.4 in
    let each = any_columns n b.1 b.4 in (
      body.Member (record { refset = a.3.0; referenced = b.3.0; further = tabbed b.1 }),
      refl,
      (a.3.1, b.3.1, columns_are_further b.1 each),
      consed _ _ _ _ _ a.2 a.3.2 (consed _ _ _ _ _ b.2 b.3.2 (sym (further_tabbed b.1 each))),
    )

row_of : (shape : Shape) (ts : List (List ℕ)) → AllStand (columns shape) ts → length (line_of ts) ≤ line_limit → (v : RowValue) × HasShape shape v × IsVersion v × SpellsColumns v ts
row_of shape ts h short =
    let k = shape.kind in
    let a = first (Identifier k) (Time ∷ Active ∷ ConceptReference ∷ own_columns shape) ts h in
    let t = first Time (Active ∷ ConceptReference ∷ own_columns shape) a.1 a.4 in
    let s = first Active (ConceptReference ∷ own_columns shape) t.1 t.4 in
    let m = first ConceptReference (own_columns shape) s.1 s.4 in
    let b = own k shape.further m.1 m.4 in
    let v = version a.3.0 t.3.0 s.3.0 m.3.0 b.0 in
    let all : ts ≡ a.0 ∷ later_columns v = consed _ _ _ _ _ a.2 refl (consed _ _ _ _ _ t.2 t.3.2 (consed _ _ _ _ _ s.2 s.3.1 (consed _ _ _ _ _ m.2 m.3.2 b.3))) in
    let long : length (line_of (a.0 ∷ later_columns v)) ≤ line_limit = subst (λ (xs : List (List ℕ)). length (line_of xs) ≤ line_limit) all short in
    let same : length (id_text (kind_of_body b.0) a.3.0) ≡ length a.0 = ap (λ (x : Kind). length (id_text x a.3.0)) b.1 ∙ id_length k a.3.0 a.0 a.3.2 in
    let many : length (body_columns b.0) ≡ length (own_columns shape) = sym (ap length b.3) ∙ columns_len (own_columns shape) m.1 m.4 in (
      v,
      (b.1, many),
      record {
        id = subst (λ (x : Kind). IsIdOf x a.3.0) (sym b.1) a.3.1;
        time = t.3.1;
        module_id = m.3.1;
        body = b.2;
        short = omega (arith, length-line a.0 (later_columns v), length-line (id_text (kind_of_body b.0) a.3.0) (later_columns v));
      },
      (a.0, subst (λ (x : Kind). SpellsId x a.3.0 a.0) (sym b.1) a.3.2, all),
    )

-- ---- lines and files

pub each_line : (shape : Shape) (text : List ℕ) → ((v : RowValue) × HasShape shape v × Spells v text) ⊎ ((f : LineFault) × IsFaultOf shape text f)
each_line shape text =
    elim (cases_lt line_limit (length text)) [
      | inl long ↦ inr (fault.LineLength, inl (long, refl))
      | inr short ↦
          elim (utf8 text) [
            | inr bad ↦ inr (fault.NotUtf8, inr (short, inl (bad, refl)))
            | inl good ↦
                elim (cases_eq (length (columns_of text)) (length (columns shape))) [
                  | inr count ↦ inr (fault.Columns, inr (short, inr (good, inl (count, refl))))
                  | inl same ↦
                      elim (each_column (columns shape) (columns_of text) same) [
                        | inr bad ↦ inr (bad.0, inr (short, inr (good, inr (same, bad.1))))
                        | inl stand ↦
                            let whole : line_of (columns_of text) ≡ text = join_with_byte-slice_split 9 text in
                            let row = row_of shape (columns_of text) stand (subst (λ (t : List ℕ). length t ≤ line_limit) (sym whole) short) in
                            inl (row.0, row.1, record { is_row = row.2; columns = (columns_of text, row.3, sym whole); short = short })
                      ]
                ]
          ]
    ]

-- what is behind a front, if the text begins with it
behind : (front text : List ℕ) → ((rest : List ℕ) × (text ≡ front ++ rest)) ⊎ ((rest : List ℕ) → text ≡ front ++ rest → ⊥)
behind front text =
    elim (same_list (take (length front) text) front) [
      | inl begins ↦ inl (drop (length front) text, sym (ap (λ (x : List ℕ). x ++ drop (length front) text) (sym begins) ∙ take-append-drop (length front) text))
      | inr other ↦ inr (λ rest e. other (ap (λ (x : List ℕ). take (length front) x) e ∙ take_at front rest (length front) refl))
    ]

tab_first : (text : List ℕ) → Decided ((text ≡ []) ⊎ ((rest : List ℕ) × (text ≡ 9 ∷ rest)))
tab_first [] = inl (inl refl)
tab_first (b ∷ bs) =
    elim (cases_eq b 9) [
      | inl tab ↦ inl (inr (bs, ap (λ (x : ℕ). x ∷ bs) tab))
      | inr other ↦ inr (λ h. elim h [ inl none ↦ absurd (cc) | inr found ↦ other (cc) ])
    ]

is_further : (text : List ℕ) → Decided (IsFurther text)
is_further text =
    elim (both (tab_first text) (both (utf8 text) (all_decided (λ b. b ≢ 10) (other_than 10) text))) [
      | inl h ↦ inl (record { front = h.0; utf8 = h.1.0; no_lf = h.1.1 })
      | inr wrong ↦ inr (λ h. wrong (h.front, (h.utf8, h.no_lf)))
    ]

-- the column names of a kind that has no others
abbrev Names : Kind → List ℕ → ℕ → Type 0
Names k text n = (n ≡ 0) × (text ≡ header k)

named : (k : Kind) (text : List ℕ) → Decided (text ≡ header k) → ((n : ℕ) × Names k text n) ⊎ ((n : ℕ) → Names k text n → ⊥)
named k text (inl is) = inl (0, (refl, is))
named k text (inr other) = inr (λ n h. other h.1)

column_names : (k : Kind) (text : List ℕ) → length text ≤ line_limit → ((n : ℕ) × IsHeader k n text) ⊎ ((n : ℕ) → IsHeader k n text → ⊥)
column_names kind.Concept text short = named kind.Concept text (same_list text (header kind.Concept))
column_names kind.Description text short = named kind.Description text (same_list text (header kind.Description))
column_names kind.Relationship text short = named kind.Relationship text (same_list text (header kind.Relationship))
column_names kind.Association text short = named kind.Association text (same_list text (header kind.Association))
column_names kind.Concrete text short = named kind.Concrete text (same_list text (header kind.Concrete))
column_names kind.Member text short =
    elim (behind (header kind.Member) text) [
      | inr none ↦ inr (λ n h. none h.0 h.3)
      | inl found ↦
          elim (is_further found.0) [
            | inl is ↦ inl (length (further_columns found.0), (found.0, is, refl, found.1, short))
            | inr wrong ↦ inr (λ n h. wrong (subst IsFurther (append_cancel_left (header kind.Member) h.0 found.0 (sym h.3 ∙ found.1)) h.1))
          ]
    ]

first_line : (k : Kind) (text : List ℕ) → ((n : ℕ) × IsHeader k n text) ⊎ ((f : LineFault) × IsFirstLineFault k text f)
first_line k text =
    elim (cases_lt line_limit (length text)) [
      | inl long ↦ inr (fault.LineLength, inl (long, refl))
      | inr short ↦
          elim (utf8 text) [
            | inr bad ↦ inr (fault.NotUtf8, inr (short, inl (bad, refl)))
            | inl good ↦ elim (column_names k text short) [ inl names ↦ inl names | inr none ↦ inr (fault.Header, inr (short, inr (good, none, refl))) ]
          ]
    ]

each_row : (shape : Shape) (lines : List (List ℕ)) → ((rows : List RowValue) × SpellsEach shape rows lines) ⊎ ((n : ℕ) × (f : LineFault) × IsFaultOfRows shape lines n f)
each_row shape [] = inl ([], tt)
each_row shape (t ∷ ts) =
    elim (each_line shape t) [
      | inr bad ↦ inr (2, bad.0, ([], [], t, ts, refl, tt, bad.1, refl))
      | inl row ↦
          elim (each_row shape ts) [
            | inl later ↦ inl (row.0 ∷ later.0, ((row.1, row.2), later.1))
            | inr h ↦
                let found = h.2 in
                inr (length (t ∷ found.1) + 2, h.1, (row.0 ∷ found.0, t ∷ found.1, found.2, found.3, ap (λ (x : List (List ℕ)). t ∷ x) found.4, ((row.1, row.2), found.5), found.6, refl))
          ]
    ]

from_lines : (k : Kind) (bytes : List ℕ) (lines : List (List ℕ)) → lines_in (without_mark bytes) ≡ lines → ((rows : List RowValue) × IsReleaseFile k rows bytes) ⊎ ((n : ℕ) × (f : LineFault) × IsFaultOfLines k lines n f)
from_lines k bytes [] cut = inr (1, fault.Header, (refl, refl))
from_lines k bytes (t ∷ ts) cut =
    elim (first_line k t) [
      | inr bad ↦ inr (1, bad.0, inl (refl, bad.1))
      | inl names ↦
          elim (each_row (shape_with k names.0) ts) [
            | inl read ↦ inl (read.0, is_release_file k names.0 read.0 bytes t ts cut names.1 read.1)
            | inr bad ↦ inr (bad.0, bad.1, inr (names.0, names.1, bad.2))
          ]
    ]

pub each_file : (k : Kind) (bytes : List ℕ) → ((rows : List RowValue) × IsReleaseFile k rows bytes) ⊎ ((n : ℕ) × (f : LineFault) × IsFaultOfFile k bytes n f)
each_file k bytes = from_lines k bytes (lines_in (without_mark bytes)) refl
