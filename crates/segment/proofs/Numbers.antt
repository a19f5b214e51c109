-- Numbers and their bytes, at each width.
use Rattle.std.proofs.Common.{◌≡◌, ℕ, ◌+◌, ◌*◌, ◌/◌, ◌%◌, ◌^◌, ◌<◌, List, [], ◌∷◌, ◌++◌, length, get_or, take, drop, refl, sym, ap, ◌∙◌, arith, lit<, inl, inr}
use Rattle.std.specs.Int.{Width, w8, w16, w32, w64, w128, byte_len, from_be_bytes, to_be_bytes}
use Rattle.std.proofs.Math.Nat.{div-div-eq-div-mul}
use Rattle.std.proofs.lemmas.Bool.{cases_lt}
use Rattle.std.proofs.lemmas.List.{take-append-drop, get_or_past, length-take, length-drop, get_or-drop, get_or-take}
use Rattle.std.proofs.lemmas.Nat.{be_bytes_2, be_bytes_4, be_bytes_8, from_be_bytes-to_be_bytes_2, from_be_bytes-to_be_bytes_4, from_be_bytes-to_be_bytes_8}

abbrev pub IsBytes : List ℕ → Type 0
IsBytes bytes = (i : ℕ) → get_or bytes i 0 < 256

-- sixteen bytes are two numbers of eight
halves : (bs : List ℕ) → from_be_bytes w128 bs ≡ from_be_bytes w64 (take 8 bs) * 18446744073709551616 + from_be_bytes w64 (drop 8 bs)
halves bs =
    omega (
      arith,
      get_or-take 8 bs 0 0 (lit< tt),
      get_or-take 8 bs 1 0 (lit< tt),
      get_or-take 8 bs 2 0 (lit< tt),
      get_or-take 8 bs 3 0 (lit< tt),
      get_or-take 8 bs 4 0 (lit< tt),
      get_or-take 8 bs 5 0 (lit< tt),
      get_or-take 8 bs 6 0 (lit< tt),
      get_or-take 8 bs 7 0 (lit< tt),
      get_or-drop 8 bs 0 0,
      get_or-drop 8 bs 1 0,
      get_or-drop 8 bs 2 0,
      get_or-drop 8 bs 3 0,
      get_or-drop 8 bs 4 0,
      get_or-drop 8 bs 5 0,
      get_or-drop 8 bs 6 0,
      get_or-drop 8 bs 7 0,
    )

pub number_length : (w : Width) (n : ℕ) → length (to_be_bytes w n) ≡ byte_len w
number_length w8 n = refl
number_length w16 n = refl
number_length w32 n = refl
number_length w64 n = refl
number_length w128 n = refl

-- a number above 64 bits, and what is left of it
whole_half : (h l : ℕ) → l < 18446744073709551616 → (h * 18446744073709551616 + l) / 18446744073709551616 ≡ h
whole_half h l small = omega arith

high_part : (h l k : ℕ) → l < 18446744073709551616 → (h * 18446744073709551616 + l) / (18446744073709551616 * k) ≡ h / k
high_part h l k small = sym (div-div-eq-div-mul (h * 18446744073709551616 + l) 18446744073709551616 k) ∙ ap (λ (x : ℕ). x / k) (whole_half h l small)

-- two numbers of eight bytes are one of sixteen
to_halves : (h l : ℕ) → l < 18446744073709551616 → to_be_bytes w128 (h * 18446744073709551616 + l) ≡ to_be_bytes w64 h ++ to_be_bytes w64 l
to_halves h l small =
    let b15 : (h * 18446744073709551616 + l) / 1329227995784915872903807060280344576 % 256 ≡ h / 72057594037927936 % 256 = ap (λ (x : ℕ). x % 256) (high_part h l 72057594037927936 small) in
    let b14 : (h * 18446744073709551616 + l) / 5192296858534827628530496329220096 % 256 ≡ h / 281474976710656 % 256 = ap (λ (x : ℕ). x % 256) (high_part h l 281474976710656 small) in
    let b13 : (h * 18446744073709551616 + l) / 20282409603651670423947251286016 % 256 ≡ h / 1099511627776 % 256 = ap (λ (x : ℕ). x % 256) (high_part h l 1099511627776 small) in
    let b12 : (h * 18446744073709551616 + l) / 79228162514264337593543950336 % 256 ≡ h / 4294967296 % 256 = ap (λ (x : ℕ). x % 256) (high_part h l 4294967296 small) in
    let b11 : (h * 18446744073709551616 + l) / 309485009821345068724781056 % 256 ≡ h / 16777216 % 256 = ap (λ (x : ℕ). x % 256) (high_part h l 16777216 small) in
    let b10 : (h * 18446744073709551616 + l) / 1208925819614629174706176 % 256 ≡ h / 65536 % 256 = ap (λ (x : ℕ). x % 256) (high_part h l 65536 small) in
    let b9 : (h * 18446744073709551616 + l) / 4722366482869645213696 % 256 ≡ h / 256 % 256 = ap (λ (x : ℕ). x % 256) (high_part h l 256 small) in
    let b8 : (h * 18446744073709551616 + l) / 18446744073709551616 % 256 ≡ h % 256 = ap (λ (x : ℕ). x % 256) (whole_half h l small) in
    let b7 : (h * 18446744073709551616 + l) / 72057594037927936 % 256 ≡ l / 72057594037927936 % 256 = omega arith in
    let b6 : (h * 18446744073709551616 + l) / 281474976710656 % 256 ≡ l / 281474976710656 % 256 = omega arith in
    let b5 : (h * 18446744073709551616 + l) / 1099511627776 % 256 ≡ l / 1099511627776 % 256 = omega arith in
    let b4 : (h * 18446744073709551616 + l) / 4294967296 % 256 ≡ l / 4294967296 % 256 = omega arith in
    let b3 : (h * 18446744073709551616 + l) / 16777216 % 256 ≡ l / 16777216 % 256 = omega arith in
    let b2 : (h * 18446744073709551616 + l) / 65536 % 256 ≡ l / 65536 % 256 = omega arith in
    let b1 : (h * 18446744073709551616 + l) / 256 % 256 ≡ l / 256 % 256 = omega arith in
    let b0 : (h * 18446744073709551616 + l) % 256 ≡ l % 256 = omega arith in
    λ i. b15 i ∷ b14 i ∷ b13 i ∷ b12 i ∷ b11 i ∷ b10 i ∷ b9 i ∷ b8 i ∷ b7 i ∷ b6 i ∷ b5 i ∷ b4 i ∷ b3 i ∷ b2 i ∷ b1 i ∷ b0 i ∷ []

below_8 : (bs : List ℕ) → IsBytes bs → from_be_bytes w64 bs < 18446744073709551616
below_8 bs fits = omega (arith, fits 0, fits 1, fits 2, fits 3, fits 4, fits 5, fits 6, fits 7)

pub IsBytes-take : (n : ℕ) (bytes : List ℕ) → IsBytes bytes → IsBytes (take n bytes)
IsBytes-take n bytes fits i = elim (cases_lt i n) [
  | inl lt ↦ rw (get_or-take n bytes i 0 lt) (fits i)
  | inr le ↦ rw (get_or_past (take n bytes) i 0 (omega (arith, length-take n bytes))) (omega arith)
]

pub IsBytes-drop : (n : ℕ) (bytes : List ℕ) → IsBytes bytes → IsBytes (drop n bytes)
IsBytes-drop n bytes fits i = rw (get_or-drop n bytes i 0) (fits (n + i))

back_16 : (bs : List ℕ) → length bs ≡ 16 → IsBytes bs → to_be_bytes w128 (from_be_bytes w128 bs) ≡ bs
back_16 bs len fits =
    let high = be_bytes_8 (take 8 bs) (from_be_bytes w64 (take 8 bs)) (omega (arith, length-take 8 bs)) (IsBytes-take 8 bs fits) refl in
    let low = be_bytes_8 (drop 8 bs) (from_be_bytes w64 (drop 8 bs)) (omega (arith, length-drop 8 bs)) (IsBytes-drop 8 bs fits) refl in
    ap (to_be_bytes w128) (halves bs)
    ∙ to_halves (from_be_bytes w64 (take 8 bs)) (from_be_bytes w64 (drop 8 bs)) (below_8 (drop 8 bs) (IsBytes-drop 8 bs fits))
    ∙ ap (λ (l : List ℕ). l ++ to_be_bytes w64 (from_be_bytes w64 (drop 8 bs))) high
    ∙ ap (λ (l : List ℕ). take 8 bs ++ l) low
    ∙ take-append-drop 8 bs

again_16 : (n : ℕ) → n < 2 ^ 128 → from_be_bytes w128 (to_be_bytes w128 n) ≡ n
again_16 n fits =
    let h : ℕ = n / 18446744073709551616 in
    let l : ℕ = n % 18446744073709551616 in
    let is : n ≡ h * 18446744073709551616 + l = omega arith in
    let small : l < 18446744073709551616 = omega arith in
    let high : h < 18446744073709551616 = omega arith in
    let bytes : to_be_bytes w128 n ≡ to_be_bytes w64 h ++ to_be_bytes w64 l = ap (to_be_bytes w128) is ∙ to_halves h l small in
    let back_high = from_be_bytes-to_be_bytes_8 h high in
    let back_low = from_be_bytes-to_be_bytes_8 l small in
    ap (from_be_bytes w128) bytes ∙ halves (to_be_bytes w64 h ++ to_be_bytes w64 l)
    ∙ ap (λ (x : ℕ). x * 18446744073709551616 + from_be_bytes w64 (to_be_bytes w64 l)) back_high
    ∙ ap (λ (x : ℕ). h * 18446744073709551616 + x) back_low ∙ sym is

-- ---- the laws at each width

back_1 : (bs : List ℕ) → length bs ≡ 1 → IsBytes bs → to_be_bytes w8 (from_be_bytes w8 bs) ≡ bs
back_1 [] len fits = absurd (omega arith)
back_1 (b ∷ []) len fits = let small : b < 256 = fits 0 in let e : b % 256 ≡ b = omega arith in λ i. e i ∷ []
back_1 (b ∷ c ∷ bs) len fits = absurd (omega arith)

abbrev pub limit : Width → ℕ
limit w = 2 ^ (8 * byte_len w)

pub number_back : (w : Width) (bs : List ℕ) → length bs ≡ byte_len w → IsBytes bs → to_be_bytes w (from_be_bytes w bs) ≡ bs
number_back w8 bs len fits = back_1 bs len fits
number_back w16 bs len fits = be_bytes_2 bs _ len fits refl
number_back w32 bs len fits = be_bytes_4 bs _ len fits refl
number_back w64 bs len fits = be_bytes_8 bs _ len fits refl
number_back w128 bs len fits = back_16 bs len fits

pub number_again : (w : Width) (n : ℕ) → n < limit w → from_be_bytes w (to_be_bytes w n) ≡ n
number_again w8 n fits = omega arith
number_again w16 n fits = from_be_bytes-to_be_bytes_2 n fits
number_again w32 n fits = from_be_bytes-to_be_bytes_4 n fits
number_again w64 n fits = from_be_bytes-to_be_bytes_8 n fits
number_again w128 n fits = again_16 n fits
