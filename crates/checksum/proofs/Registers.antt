-- The register is linear: what becomes of a sum is the sum of what becomes of its parts.
use Rattle.std.proofs.Common.{◌≡◌, ℕ, zero, suc, ◌+◌, ◌*◌, ◌/◌, ◌%◌, ◌^◌, ◌<◌, ◌≤◌, List, [], ◌∷◌, length, drop, slice_index_or, refl, sym, ap, ◌∙◌, arith}
use Rattle.std.proofs.lemmas.List.{at_drop_more}
use Rattle.std.specs.List.{fold, AllByRecursion}
use Rattle.std.specs.Prelude.{bit_xor}
use Rattle.std.specs.Int.Bits.{xor_assoc, xor_zero_r, xor_self}
use Rattle.std.proofs.lemmas.Nat.{xor_comm, xor_shr, xor_mod, xor_block, xor_lt, pow_pos}
use Rattle.checksum.specs.Crc32c.{polynomial, shifted, shifted_by, with_byte}

-- two sums of two, added crosswise
pub xor_swap : (a b c d : ℕ) → bit_xor (bit_xor a b) (bit_xor c d) ≡ bit_xor (bit_xor a c) (bit_xor b d)
xor_swap a b c d =
    xor_assoc a b (bit_xor c d)
    ∙ ap (bit_xor a) (sym (xor_assoc b c d) ∙ ap (λ (x : ℕ). bit_xor x d) (xor_comm b c) ∙ xor_assoc c b d)
    ∙ sym (xor_assoc a c (bit_xor b d))

-- all bits turned over twice
pub turned_back : (r : ℕ) → bit_xor (bit_xor r 0xFFFFFFFF) 0xFFFFFFFF ≡ r
turned_back r = xor_assoc r 0xFFFFFFFF 0xFFFFFFFF ∙ ap (bit_xor r) (xor_self 0xFFFFFFFF) ∙ xor_zero_r r

-- where a bit is taken times a number
bit_times : (x y p : ℕ) → x < 2 → y < 2 → bit_xor x y * p ≡ bit_xor (x * p) (y * p)
bit_times zero y p hx hy = let none : 0 * p ≡ 0 = omega arith in sym (ap (λ (z : ℕ). bit_xor z (y * p)) none)
bit_times (suc zero) zero p hx hy = let none : 0 * p ≡ 0 = omega arith in sym (ap (bit_xor (1 * p)) none ∙ xor_zero_r (1 * p))
bit_times (suc zero) (suc zero) p hx hy = let none : 0 * p ≡ 0 = omega arith in none ∙ sym (xor_self (1 * p))
bit_times (suc zero) (suc (suc y)) p hx hy = absurd (omega (arith, hy))
bit_times (suc (suc x)) y p hx hy = absurd (omega (arith, hx))

pub shifted-xor : (a b : ℕ) → shifted (bit_xor a b) ≡ bit_xor (shifted a) (shifted b)
unfolding shifted
shifted-xor a b =
    let half : bit_xor a b / 2 ≡ bit_xor (a / 2) (b / 2) = xor_shr a b 1 in
    let low : bit_xor a b % 2 ≡ bit_xor (a % 2) (b % 2) = xor_mod a b 1 in
    ap (λ (h : ℕ). bit_xor h (bit_xor a b % 2 * polynomial)) half
    ∙ ap (λ (l : ℕ). bit_xor (bit_xor (a / 2) (b / 2)) (l * polynomial)) low
    ∙ ap (bit_xor (bit_xor (a / 2) (b / 2))) (bit_times (a % 2) (b % 2) polynomial (omega arith) (omega arith))
    ∙ xor_swap (a / 2) (b / 2) (a % 2 * polynomial) (b % 2 * polynomial)

pub shifted_by-xor : (n a b : ℕ) → shifted_by n (bit_xor a b) ≡ bit_xor (shifted_by n a) (shifted_by n b)
unfolding shifted_by
shifted_by-xor zero a b = refl
shifted_by-xor (suc n) a b = ap (shifted_by n) (shifted-xor a b) ∙ shifted_by-xor n (shifted a) (shifted b)

-- low zeros are shifted out and leave the rest
shifted_even : (a : ℕ) → shifted (a * 2) ≡ a
unfolding shifted
shifted_even a =
    let half : a * 2 / 2 ≡ a = omega arith in
    let low : a * 2 % 2 ≡ 0 = omega arith in
    ap (λ (h : ℕ). bit_xor h (a * 2 % 2 * polynomial)) half ∙ ap (λ (l : ℕ). bit_xor a (l * polynomial)) low ∙ xor_zero_r a

pub shifted_high : (a : ℕ) → shifted_by 8 (a * 256) ≡ a
unfolding shifted_by
shifted_high a =
    let s : shifted (a * 256) ≡ a * 128 = ap shifted (omega arith) ∙ shifted_even (a * 128) in
    let s2 : shifted (a * 128) ≡ a * 64 = ap shifted (omega arith) ∙ shifted_even (a * 64) in
    let s3 : shifted (a * 64) ≡ a * 32 = ap shifted (omega arith) ∙ shifted_even (a * 32) in
    let s4 : shifted (a * 32) ≡ a * 16 = ap shifted (omega arith) ∙ shifted_even (a * 16) in
    let s5 : shifted (a * 16) ≡ a * 8 = ap shifted (omega arith) ∙ shifted_even (a * 8) in
    let s6 : shifted (a * 8) ≡ a * 4 = ap shifted (omega arith) ∙ shifted_even (a * 4) in
    let s7 : shifted (a * 4) ≡ a * 2 = ap shifted (omega arith) ∙ shifted_even (a * 2) in
    simp (s, s2, s3, s4, s5, s6, s7, shifted_even a) refl

-- a number is the sum of its last eight bits and of the others
digits : (q d : ℕ) → d < 256 → d + q * 256 ≡ bit_xor d (q * 256)
digits q d small =
    let apart : bit_xor (q * 2 ^ 8 + 0) (0 * 2 ^ 8 + d) ≡ bit_xor q 0 * 2 ^ 8 + bit_xor 0 d = xor_block 8 q 0 0 d (omega arith) (omega (arith, small)) in
    let left : q * 2 ^ 8 + 0 ≡ q * 256 = omega arith in
    let right : 0 * 2 ^ 8 + d ≡ d = omega arith in
    let whole : bit_xor (q * 256) d ≡ q * 256 + d = ap (λ (x : ℕ). bit_xor x d) (sym left) ∙ ap (bit_xor (q * 2 ^ 8 + 0)) (sym right) ∙ apart ∙ ap (λ (x : ℕ). x * 256 + d) (xor_zero_r q) in
    omega (arith, whole, xor_comm d (q * 256))

-- eight bits more, where a byte is added to the last eight
pub byte_taken : (q d b : ℕ) → d < 256 → with_byte (d + q * 256) b ≡ bit_xor (shifted_by 8 (bit_xor d b)) q
unfolding with_byte
byte_taken q d b small =
    ap (λ (r : ℕ). shifted_by 8 (bit_xor r b)) (digits q d small)
    ∙ ap (shifted_by 8) (xor_assoc d (q * 256) b ∙ ap (bit_xor d) (xor_comm (q * 256) b) ∙ sym (xor_assoc d b (q * 256)))
    ∙ shifted_by-xor 8 (bit_xor d b) (q * 256)
    ∙ ap (bit_xor (shifted_by 8 (bit_xor d b))) (shifted_high q)

-- ---- bytes one after the other

pub shifted_more : (n m a : ℕ) → shifted_by m (shifted_by n a) ≡ shifted_by (n + m) a
unfolding shifted_by
shifted_more zero m a = let none : 0 + m ≡ m = omega arith in ap (λ (k : ℕ). shifted_by k a) (sym none)
shifted_more (suc n) m a =
    let one : suc n + m ≡ suc (n + m) = omega arith in
    shifted_more n m (shifted a) ∙ ap (λ (k : ℕ). shifted_by k a) (sym one)

-- what a byte makes of a sum
pub added : (a r b : ℕ) → with_byte (bit_xor a r) b ≡ bit_xor (shifted_by 8 a) (with_byte r b)
unfolding with_byte
added a r b = ap (shifted_by 8) (xor_assoc a r b) ∙ shifted_by-xor 8 a (bit_xor r b)

-- and what bytes make of it
pub folded_apart : (bs : List ℕ) (a r : ℕ) → fold with_byte (bit_xor a r) bs ≡ bit_xor (shifted_by (8 * length bs) a) (fold with_byte r bs)
unfolding shifted_by
folded_apart [] a r = refl
folded_apart (b ∷ bs) a r =
    let more : 8 + 8 * length bs ≡ 8 * suc (length bs) = omega arith in
    ap (λ (x : ℕ). fold with_byte x bs) (added a r b)
    ∙ folded_apart bs (shifted_by 8 a) (with_byte r b)
    ∙ ap (λ (x : ℕ). bit_xor x (fold with_byte (with_byte r b) bs)) (shifted_more 8 (8 * length bs) a ∙ ap (λ n. shifted_by n a) more)

-- ---- bytes at their places

-- a number is the sum of its four bytes, each at its place
xor_times : (k a b : ℕ) → bit_xor (a * 2 ^ k) (b * 2 ^ k) ≡ bit_xor a b * 2 ^ k
xor_times k a b =
    let none : (x : ℕ) → x * 2 ^ k + 0 ≡ x * 2 ^ k = λ x. omega arith in
    ap (λ (x : ℕ). bit_xor x (b * 2 ^ k)) (sym (none a)) ∙ ap (bit_xor (a * 2 ^ k + 0)) (sym (none b)) ∙ xor_block k a b 0 0 (pow_pos k) (pow_pos k) ∙ none (bit_xor a b)

pub four_apart : (r0 r1 r2 r3 : ℕ) → r0 < 256 → r1 < 256 → r2 < 256 → r0 + (r1 + (r2 + r3 * 256) * 256) * 256 ≡ bit_xor r0 (bit_xor (r1 * 2 ^ 8) (bit_xor (r2 * 2 ^ 16) (r3 * 2 ^ 24)))
four_apart r0 r1 r2 r3 small0 small1 small2 =
    let q2 = r2 + r3 * 256 in
    let q1 = r1 + q2 * 256 in
    let last : r3 * 256 * 2 ^ 16 ≡ r3 * 2 ^ 24 = omega arith in
    let places : q2 * 256 * 2 ^ 8 ≡ q2 * 2 ^ 16 = omega arith in
    let third : q2 * 256 * 2 ^ 8 ≡ bit_xor (r2 * 2 ^ 16) (r3 * 2 ^ 24) =
    places ∙ ap (λ (x : ℕ). x * 2 ^ 16) (digits r3 r2 small2) ∙ sym (xor_times 16 r2 (r3 * 256)) ∙ ap (bit_xor (r2 * 2 ^ 16)) last in
    let second : q1 * 256 ≡ bit_xor (r1 * 2 ^ 8) (bit_xor (r2 * 2 ^ 16) (r3 * 2 ^ 24)) =
    ap (λ (x : ℕ). x * 2 ^ 8) (digits q2 r1 small1) ∙ sym (xor_times 8 r1 (q2 * 256)) ∙ ap (bit_xor (r1 * 2 ^ 8)) third in
    digits q1 r0 small0 ∙ ap (bit_xor r0) second

-- a number is its four bytes
four_digits : (r : ℕ) → r < 2 ^ 32 → r ≡ r % 256 + (r / 256 % 256 + (r / 65536 % 256 + r / 16777216 % 256 * 256) * 256) * 256
four_digits r small = omega (arith, small)

-- a byte in a higher place is shifted out later
moved : (n a : ℕ) → shifted_by (n + 8) (a * 256) ≡ shifted_by n a
moved n a =
    let bits : n + 8 ≡ 8 + n = omega arith in
    ap (λ k. shifted_by k (a * 256)) bits ∙ sym (shifted_more 8 n (a * 256)) ∙ ap (shifted_by n) (shifted_high a)

from_third : (n a : ℕ) → shifted_by (n + 8) (a * 2 ^ 24) ≡ shifted_by n (a * 2 ^ 16)
from_third n a =
    let place : a * 2 ^ 24 ≡ a * 2 ^ 16 * 256 = omega arith in
    ap (shifted_by (n + 8)) place ∙ moved n (a * 2 ^ 16)

from_second : (n a : ℕ) → shifted_by (n + 16) (a * 2 ^ 24) ≡ shifted_by n (a * 2 ^ 8)
from_second n a =
    let bits : n + 16 ≡ n + 8 + 8 = omega arith in
    let place : a * 2 ^ 16 ≡ a * 2 ^ 8 * 256 = omega arith in
    ap (λ k. shifted_by k (a * 2 ^ 24)) bits ∙ from_third (n + 8) a ∙ ap (shifted_by (n + 8)) place ∙ moved n (a * 2 ^ 8)

pub from_first : (n a : ℕ) → shifted_by (n + 24) (a * 2 ^ 24) ≡ shifted_by n a
from_first n a =
    let bits : n + 24 ≡ n + 8 + 16 = omega arith in
    let place : a * 2 ^ 8 ≡ a * 256 = omega arith in
    ap (λ k. shifted_by k (a * 2 ^ 24)) bits ∙ from_second (n + 8) a ∙ ap (shifted_by (n + 8)) place ∙ moved n a

-- what becomes of a register, from what becomes of each of its bytes in the highest place
pub bytes_shifted : (n r : ℕ) → r < 2 ^ 32
    → bit_xor (shifted_by (n + 24) (r % 256 * 2 ^ 24)) (bit_xor (shifted_by (n + 16) (r / 256 % 256 * 2 ^ 24)) (bit_xor (shifted_by (n + 8) (r / 65536 % 256 * 2 ^ 24)) (shifted_by n (r / 16777216 % 256 * 2 ^ 24)))) ≡ shifted_by n r
bytes_shifted n r small =
    let r0 = r % 256 in
    let r1 = r / 256 % 256 in
    let r2 = r / 65536 % 256 in
    let r3 = r / 16777216 % 256 in
    (λ i. bit_xor (from_first n r0 i) (bit_xor (from_second n r1 i) (bit_xor (from_third n r2 i) (shifted_by n (r3 * 2 ^ 24)))))
    ∙ sym (shifted_by-xor n r0 (bit_xor (r1 * 2 ^ 8) (bit_xor (r2 * 2 ^ 16) (r3 * 2 ^ 24)))
    ∙ ap (bit_xor (shifted_by n r0)) (shifted_by-xor n (r1 * 2 ^ 8) (bit_xor (r2 * 2 ^ 16) (r3 * 2 ^ 24))
    ∙ ap (bit_xor (shifted_by n (r1 * 2 ^ 8))) (shifted_by-xor n (r2 * 2 ^ 16) (r3 * 2 ^ 24))))
    ∙ ap (shifted_by n) (sym (four_apart r0 r1 r2 r3 (omega arith) (omega arith) (omega arith)))
    ∙ ap (shifted_by n) (sym (four_digits r small))

-- ---- four bytes at once

-- a byte after others adds what would become it after as many bytes
taken_behind : (n a b c : ℕ) → shifted_by n c ≡ b → with_byte (shifted_by n a) b ≡ shifted_by (n + 8) (bit_xor a c)
unfolding with_byte
taken_behind n a b c is =
    ap (λ (x : ℕ). shifted_by 8 (bit_xor (shifted_by n a) x)) (sym is)
    ∙ ap (shifted_by 8) (sym (shifted_by-xor n a c))
    ∙ shifted_more n 8 (bit_xor a c)

place_0 : (b : ℕ) → shifted_by 0 b ≡ b
unfolding shifted_by
place_0 b = refl

place_1 : (b : ℕ) → shifted_by 8 (b * 2 ^ 8) ≡ b
place_1 b = moved 0 b ∙ place_0 b

place_2 : (b : ℕ) → shifted_by 16 (b * 2 ^ 16) ≡ b
place_2 b = let place : b * 2 ^ 16 ≡ b * 2 ^ 8 * 256 = omega arith in ap (shifted_by 16) place ∙ moved 8 (b * 2 ^ 8) ∙ place_1 b

place_3 : (b : ℕ) → shifted_by 24 (b * 2 ^ 24) ≡ b
place_3 b = from_first 0 b ∙ place_0 b

abbrev pub word : ℕ → ℕ → ℕ → ℕ → ℕ
word b0 b1 b2 b3 = b0 + (b1 + (b2 + b3 * 256) * 256) * 256

pub four_taken : (r b0 b1 b2 b3 : ℕ) → b0 < 256 → b1 < 256 → b2 < 256 → with_byte (with_byte (with_byte (with_byte r b0) b1) b2) b3 ≡ shifted_by 32 (bit_xor r (word b0 b1 b2 b3))
four_taken r b0 b1 b2 b3 small0 small1 small2 =
    let x1 = bit_xor r b0 in
    let x2 = bit_xor x1 (b1 * 2 ^ 8) in
    let x3 = bit_xor x2 (b2 * 2 ^ 16) in
    let t0 : with_byte r b0 ≡ shifted_by 8 x1 = ap (λ (x : ℕ). with_byte x b0) (sym (place_0 r)) ∙ taken_behind 0 r b0 b0 (place_0 b0) in
    ap (λ (x : ℕ). with_byte (with_byte (with_byte x b1) b2) b3) t0
    ∙ ap (λ (x : ℕ). with_byte (with_byte x b2) b3) (taken_behind 8 x1 b1 (b1 * 2 ^ 8) (place_1 b1))
    ∙ ap (λ (x : ℕ). with_byte x b3) (taken_behind 16 x2 b2 (b2 * 2 ^ 16) (place_2 b2))
    ∙ taken_behind 24 x3 b3 (b3 * 2 ^ 24) (place_3 b3)
    ∙ ap (shifted_by 32)
    (xor_assoc x2 (b2 * 2 ^ 16) (b3 * 2 ^ 24)
    ∙ xor_assoc x1 (b1 * 2 ^ 8) (bit_xor (b2 * 2 ^ 16) (b3 * 2 ^ 24))
    ∙ xor_assoc r b0 (bit_xor (b1 * 2 ^ 8) (bit_xor (b2 * 2 ^ 16) (b3 * 2 ^ 24)))
    ∙ ap (bit_xor r) (sym (four_apart b0 b1 b2 b3 small0 small1 small2)))

fold_more : (bs : List ℕ) (r i j : ℕ) → i < length bs → i + 1 ≡ j → fold with_byte r (drop i bs) ≡ fold with_byte (with_byte r (slice_index_or bs i 0)) (drop j bs)
fold_more bs r i j there next = at_drop_more (fold with_byte r) bs i 0 there ∙ ap (λ n. fold with_byte (with_byte r (slice_index_or bs i 0)) (drop n bs)) next

-- four bytes of a list, as a number
abbrev pub word_at : List ℕ → ℕ → ℕ
word_at bs i = word (slice_index_or bs i 0) (slice_index_or bs (i + 1) 0) (slice_index_or bs (i + 2) 0) (slice_index_or bs (i + 3) 0)

pub fold_four : (bs : List ℕ) (r i : ℕ) → ((j : ℕ) → slice_index_or bs j 0 < 256) → i + 4 ≤ length bs → fold with_byte r (drop i bs) ≡ fold with_byte (shifted_by 32 (bit_xor r (word_at bs i))) (drop (i + 4) bs)
fold_four bs r i small there =
    let r1 = with_byte r (slice_index_or bs i 0) in
    let r2 = with_byte r1 (slice_index_or bs (i + 1) 0) in
    let r3 = with_byte r2 (slice_index_or bs (i + 2) 0) in
    fold_more bs r i (i + 1) (omega (arith, there)) (omega arith)
    ∙ fold_more bs r1 (i + 1) (i + 2) (omega (arith, there)) (omega arith)
    ∙ fold_more bs r2 (i + 2) (i + 3) (omega (arith, there)) (omega arith)
    ∙ fold_more bs r3 (i + 3) (i + 4) (omega (arith, there)) (omega arith)
    ∙ ap (λ (x : ℕ). fold with_byte x (drop (i + 4) bs)) (four_taken r (slice_index_or bs i 0) (slice_index_or bs (i + 1) 0) (slice_index_or bs (i + 2) 0) (slice_index_or bs (i + 3) 0) (small i) (small (i + 1)) (small (i + 2)))

-- two bytes at the beginning of a list
two_taken : (r b0 b1 : ℕ) → b0 < 256 → b1 < 256 → with_byte (with_byte r b0) b1 ≡ shifted_by 16 (bit_xor r (word b0 b1 0 0))
two_taken r b0 b1 small0 small1 =
    let x1 = bit_xor r b0 in
    let t0 : with_byte r b0 ≡ shifted_by 8 x1 = ap (λ (x : ℕ). with_byte x b0) (sym (place_0 r)) ∙ taken_behind 0 r b0 b0 (place_0 b0) in
    let none : bit_xor (0 * 2 ^ 16) (0 * 2 ^ 24) ≡ 0 = xor_self 0 in
    let second : bit_xor (b1 * 2 ^ 8) (bit_xor (0 * 2 ^ 16) (0 * 2 ^ 24)) ≡ b1 * 2 ^ 8 = ap (bit_xor (b1 * 2 ^ 8)) none ∙ xor_zero_r (b1 * 2 ^ 8) in
    ap (λ (x : ℕ). with_byte x b1) t0
    ∙ taken_behind 8 x1 b1 (b1 * 2 ^ 8) (place_1 b1)
    ∙ ap (shifted_by 16)
    (xor_assoc r b0 (b1 * 2 ^ 8)
    ∙ ap (λ (x : ℕ). bit_xor r (bit_xor b0 x)) (sym second)
    ∙ ap (bit_xor r) (sym (four_apart b0 b1 0 0 small0 small1 (omega arith))))

pub fold_two : (bs : List ℕ) (r : ℕ) → ((j : ℕ) → slice_index_or bs j 0 < 256) → 2 ≤ length bs → fold with_byte r bs ≡ fold with_byte (shifted_by 16 (bit_xor r (word (slice_index_or bs 0 0) (slice_index_or bs 1 0) 0 0))) (drop 2 bs)
fold_two bs r small there =
    let r1 = with_byte r (slice_index_or bs 0 0) in
    fold_more bs r 0 1 (omega (arith, there)) (omega arith)
    ∙ fold_more bs r1 1 2 (omega (arith, there)) (omega arith)
    ∙ ap (λ (x : ℕ). fold with_byte x (drop 2 bs)) (two_taken r (slice_index_or bs 0 0) (slice_index_or bs 1 0) (small 0) (small 1))

-- two words, one after the other
pub two_words : (a b : ℕ) → shifted_by 32 (bit_xor (shifted_by 32 a) b) ≡ bit_xor (shifted_by 64 a) (shifted_by 32 b)
two_words a b = simp (shifted_by-xor, shifted_more, xor_assoc) refl

-- four words, one after the other
pub four_words : (a b c d : ℕ) → shifted_by 32 (bit_xor (shifted_by 32 (bit_xor (shifted_by 32 (bit_xor (shifted_by 32 a) b)) c)) d) ≡ bit_xor (shifted_by 128 a) (bit_xor (shifted_by 96 b) (bit_xor (shifted_by 64 c) (shifted_by 32 d)))
four_words a b c d = simp (shifted_by-xor, shifted_more, xor_assoc) refl

-- ---- one byte that was changed

-- a sum of nothing is of equal numbers
none_apart : (a b : ℕ) → bit_xor a b ≡ 0 → a ≡ b
none_apart a b none =
    sym (xor_zero_r a) ∙ ap (bit_xor a) (sym (xor_self b)) ∙ sym (xor_assoc a b b) ∙ ap (λ (x : ℕ). bit_xor x b) none

shifted_none : (a : ℕ) → a < 2 ^ 32 → shifted a ≡ 0 → a ≡ 0
unfolding shifted
shifted_none a small none =
    let same : a / 2 ≡ a % 2 * polynomial = none_apart (a / 2) (a % 2 * polynomial) none in
    omega (arith, small, same)

shifted_small : (a : ℕ) → a < 2 ^ 32 → shifted a < 2 ^ 32
unfolding shifted
shifted_small a small = xor_lt 32 (a / 2) (a % 2 * polynomial) (omega (arith, small)) (omega arith)

by_none : (n a : ℕ) → a < 2 ^ 32 → shifted_by n a ≡ 0 → a ≡ 0
unfolding shifted_by
by_none zero a small none = none
by_none (suc n) a small none = shifted_none a small (by_none n (shifted a) (shifted_small a small) none)

by_small : (n a : ℕ) → a < 2 ^ 32 → shifted_by n a < 2 ^ 32
unfolding shifted_by
by_small zero a small = small
by_small (suc n) a small = by_small n (shifted a) (shifted_small a small)

by_same : (n a b : ℕ) → a < 2 ^ 32 → b < 2 ^ 32 → shifted_by n a ≡ shifted_by n b → a ≡ b
by_same n a b smallA smallB same =
    none_apart a b (by_none n (bit_xor a b) (xor_lt 32 a b smallA smallB)
    (shifted_by-xor n a b ∙ ap (λ (x : ℕ). bit_xor x (shifted_by n b)) same ∙ xor_self (shifted_by n b)))

xor_same_left : (r a b : ℕ) → bit_xor r a ≡ bit_xor r b → a ≡ b
xor_same_left r a b same =
    let back : (x : ℕ) → bit_xor r (bit_xor r x) ≡ x = λ x. sym (xor_assoc r r x) ∙ ap (λ (z : ℕ). bit_xor z x) (xor_self r) in
    sym (back a) ∙ ap (bit_xor r) same ∙ back b

pub xor_same_right : (r a b : ℕ) → bit_xor a r ≡ bit_xor b r → a ≡ b
xor_same_right r a b same = xor_same_left r a b (xor_comm r a ∙ same ∙ xor_comm b r)

byte_small : (r b : ℕ) → r < 2 ^ 32 → b < 256 → bit_xor r b < 2 ^ 32
byte_small r b small smallB = xor_lt 32 r b small (omega (arith, smallB))

pub taken_small : (r b : ℕ) → r < 2 ^ 32 → b < 256 → with_byte r b < 2 ^ 32
unfolding with_byte
taken_small r b small smallB = by_small 8 (bit_xor r b) (byte_small r b small smallB)

pub fold_small : (bs : List ℕ) (r : ℕ) → r < 2 ^ 32 → AllByRecursion (λ b. b < 256) bs → fold with_byte r bs < 2 ^ 32
fold_small [] r small all = small
fold_small (b ∷ bs) r small all = fold_small bs (with_byte r b) (taken_small r b small all.0) all.1

-- two registers that differ still do so after the same bytes
pub fold_same : (bs : List ℕ) (r q : ℕ) → r < 2 ^ 32 → q < 2 ^ 32 → AllByRecursion (λ b. b < 256) bs → fold with_byte r bs ≡ fold with_byte q bs → r ≡ q
unfolding with_byte
fold_same [] r q smallR smallQ all same = same
fold_same (b ∷ bs) r q smallR smallQ all same =
    let one : with_byte r b ≡ with_byte q b = fold_same bs (with_byte r b) (with_byte q b) (taken_small r b smallR all.0) (taken_small q b smallQ all.0) all.1 same in
    xor_same_right b r q (by_same 8 (bit_xor r b) (bit_xor q b) (byte_small r b smallR all.0) (byte_small q b smallQ all.0) one)

-- and so do registers after two bytes that differ
pub byte_same : (r b c : ℕ) → r < 2 ^ 32 → b < 256 → c < 256 → with_byte r b ≡ with_byte r c → b ≡ c
unfolding with_byte
byte_same r b c small smallB smallC same =
    xor_same_left r b c (by_same 8 (bit_xor r b) (bit_xor r c) (byte_small r b small smallB) (byte_small r c small smallC) same)
