-- The canonical spelling of a member id spells it, and is plain text.
use Rattle.std.proofs.Common.{◌≡◌, ◌<◌, ◌^◌, ℕ, zero, suc, subst, List, length, Bool, true, false, if◌then◌else◌, inl, inr, arith, refl, sym, ap, ◌∙◌, All}
use Rattle.std.specs.Prelude.{OnOk, Result, Ok, Err, is_ok, ◌++◌}
use Rattle.std.specs.Int.{to_be_bytes, w128, bytes_high_first, byte_at}
use Rattle.std.proofs.lemmas.Bool.Decides.{nat_tests}
use Rattle.std.proofs.lemmas.List.Elements.{All-from_get_or, All-cons}
use Rattle.uuid.specs.Text.{hex_digit, nibble, lower, is_hyphen_place, digit_place}
use Rattle.uuid.proofs.TextLemmas.{by_index_length, by_index_at, nibble_small}
use Rattle.uuid.proofs.RoundTrips.{parses_hyphenated}
use Rattle.uuid.proofs.OrderLemmas.{from_be_bytes-to_be_bytes_16}
use Rattle.rf2_values.specs.Member.{IsMemberByte, SpellsMember, member_text}

digit_is_plain : (d : ℕ) → d < 16 → IsMemberByte (hex_digit lower d)
digit_is_plain d small = grind (arith, nat_tests)

place_is_plain : (b : Bool) (x : ℕ) → IsMemberByte x → IsMemberByte (if b then 45 else x)
place_is_plain true x h = inr refl
place_is_plain false x h = h

pub member_text_is_plain : (n : ℕ) → All IsMemberByte (member_text n)
member_text_is_plain n =
    let bytes = to_be_bytes w128 n in
    let long : length (member_text n) ≡ 36 = by_index_length 36 _ in
    All-from_get_or IsMemberByte (member_text n) 0 (λ i l.
    let at = by_index_at 36 (λ k. if is_hyphen_place k then 45 else hex_digit lower (nibble bytes (digit_place k))) i 0 (omega arith) in
    subst IsMemberByte (sym at) (place_is_plain (is_hyphen_place i) (hex_digit lower (nibble bytes (digit_place i))) (digit_is_plain (nibble bytes (digit_place i)) (nibble_small bytes (digit_place i)))))

byte_is_small : (i n : ℕ) → byte_at i n < 256
byte_is_small zero n = omega arith
byte_is_small (suc i) n = omega arith

bytes_are_small : (k n : ℕ) → All (λ b. b < 256) (bytes_high_first k n)
bytes_are_small zero n = λ k d l. absurd (omega arith)
bytes_are_small (suc k) n = All-cons (λ b. b < 256) (byte_at k n) (bytes_high_first k n) (byte_is_small k n) (bytes_are_small k n)

pub member_text_spells : (n : ℕ) → n < 2 ^ 128 → SpellsMember n (member_text n)
member_text_spells n lt = record {
  long = by_index_length 36 _;
  plain = member_text_is_plain n;
  value = (to_be_bytes w128 n, sym (parses_hyphenated lower (to_be_bytes w128 n) (inl refl) refl (bytes_are_small 16 n)), sym (from_be_bytes-to_be_bytes_16 n lt));
}

-- what an append that succeeded left
pub appended : {E : Type 0} (r : Result Unit E) (new old added wanted : List ℕ) → new ≡ (if is_ok r then old ++ added else old) → added ≡ wanted → OnOk r (new ≡ old ++ wanted)
appended (Ok x) new old added wanted e same = e ∙ ap (λ (x : List ℕ). old ++ x) same
appended (Err x) new old added wanted e same = tt
