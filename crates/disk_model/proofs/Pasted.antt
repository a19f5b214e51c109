-- A part of a list written over, as a write to a file.
use Rattle.std.proofs.Common.{◌≡◌, inl, inr, ℕ, ◌+◌, ◌-◌, ◌<◌, ◌≤◌, min, List, [], ◌∷◌, ◌++◌, length, get_or, take, drop, replicate, refl, sym, ◌∙◌, ap, arith, length-append}
use Rattle.std.proofs.lemmas.List.{append-nil, ext_get_or, length-replicate, get_or_append_left, get_or-append_right, get_or-replicate, get_or_past, take_at, take_all}
use Rattle.std.proofs.lemmas.Bool.{cases_lt}
use Rattle.disk_model.specs.Disk.{put}
use Rattle.disk_model.specs.Change.{written}
use Rattle.disk_model.specs.Private.Put.{length-put, get_or-put_below, get_or-put_inside}

-- within the file
pasted : (file : List ℕ) (at : ℕ) (bytes : List ℕ) → at ≤ length file → take at file ++ bytes ++ drop (at + length bytes) file ≡ put file at bytes
unfolding put
pasted file at bytes le =
    let none : at - length file ≡ 0 = omega arith in
    ap (λ (l : List ℕ). l ++ bytes ++ drop (at + length bytes) file) (sym (append-nil (take at file)) ∙ ap (λ n. take at file ++ replicate n 0) (sym none))

zeros : (file : List ℕ) (n i : ℕ) → get_or (file ++ replicate n 0) i 0 ≡ get_or file i 0
zeros file n i = elim (cases_lt i (length file)) [
  | inl here ↦ get_or_append_left file (replicate n 0) 0 i here
  | inr past ↦ get_or-append_right file (replicate n 0) (length file) i 0 refl past ∙ in_zeros n (i - length file) ∙ sym (get_or_past file i 0 past)
]
  where
    in_zeros : (n k : ℕ) → get_or {A = ℕ} (replicate n 0) k 0 ≡ 0
    in_zeros n k = elim (cases_lt k n) [ inl lt ↦ get_or-replicate n k 0 0 lt | inr ge ↦ get_or_past (replicate n 0) k 0 (omega (arith, length-replicate {A = ℕ} n 0)) ]

-- the file was made longer first
put_longer : (file : List ℕ) (at n : ℕ) (bytes : List ℕ) → length file + n ≡ at + length bytes → put (file ++ replicate n 0) at bytes ≡ put file at bytes
put_longer file at n bytes end =
    let long : length (file ++ replicate n 0) ≡ at + length bytes = length-append file (replicate n 0) ∙ ap (λ k. length file + k) (length-replicate n 0) ∙ end in
    ext_get_or 0 (put (file ++ replicate n 0) at bytes) (put file at bytes) (omega (arith, length-put (file ++ replicate n 0) at bytes, length-put file at bytes, long)) (λ i lt.
    elim (cases_lt i at) [
      | inl below ↦ get_or-put_below (file ++ replicate n 0) at bytes i below ∙ zeros file n i ∙ sym (get_or-put_below file at bytes i below)
      | inr ge ↦ let inside : i < at + length bytes = omega (arith, length-put (file ++ replicate n 0) at bytes, long) in get_or-put_inside (file ++ replicate n 0) at bytes i ge inside ∙ sym (get_or-put_inside file at bytes i ge inside)
    ])

pub paste_put : (file big : List ℕ) (at : ℕ) (bytes : List ℕ) → big ≡ file ++ replicate (at + length bytes - length file) 0 → take at big ++ bytes ++ drop (at + length bytes) big ≡ put file at bytes
paste_put file big at bytes is = elim (cases_lt (length file) (at + length bytes)) [
  | inl short ↦
      let more = at + length bytes - length file in
      let long : length (file ++ replicate more 0) ≡ at + length bytes = length-append file (replicate more 0) ∙ ap (λ k. length file + k) (length-replicate more 0) ∙ (let e : length file + more ≡ at + length bytes = omega arith in e) in
      ap (λ (l : List ℕ). take at l ++ bytes ++ drop (at + length bytes) l) is
      ∙ pasted (file ++ replicate more 0) at bytes (omega (arith, long))
      ∙ put_longer file at more bytes (omega arith)
  | inr long ↦
      let none : at + length bytes - length file ≡ 0 = omega arith in
      let same : big ≡ file = is ∙ ap (λ n. file ++ replicate n 0) none ∙ append-nil file in
      ap (λ (l : List ℕ). take at l ++ bytes ++ drop (at + length bytes) l) same ∙ pasted file at bytes (omega arith)
]

pub written_put : (file : List ℕ) (at : ℕ) (bytes : List ℕ) → 0 < length bytes → put file at bytes ≡ written file at bytes
written_put file at [] some = absurd (omega arith)
written_put file at (byte ∷ bytes) some = refl

pub whole : (n : ℕ) (new xs : List ℕ) → n ≡ length new → length xs ≤ length new → take n (new ++ drop (length new) xs) ≡ new
whole n new xs is le = take_at new (drop (length new) xs) n (sym is)

-- a part that is no longer than the list
pub take_min : (part : ℕ) (bytes : List ℕ) (n : ℕ) → n ≡ min (length bytes) part → take n bytes ≡ take part bytes
take_min part bytes n is = elim (cases_lt part (length bytes)) [
  | inl lt ↦ ap (λ k. take k bytes) (let e : n ≡ part = omega arith in e)
  | inr ge ↦ take_all n bytes (omega arith) ∙ sym (take_all part bytes ge)
]
