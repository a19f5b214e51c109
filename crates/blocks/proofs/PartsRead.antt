-- The reading of a part of a file, block by block.
use Rattle.std.proofs.Common.{◌≡◌, inl, inr, ℕ, ◌*◌, ◌+◌, ◌-◌, ◌<◌, ◌≤◌, ◌++◌, List, [], length, length-append, get_or, take, drop, arith, sym, ap, ◌∙◌, length-take, length-drop}
use Rattle.std.proofs.lemmas.List.{ext_get_or, get_or-take, get_or-drop, get_or_append_left, get_or-append_right, append-nil, drop-take, take-append-le, take-take, drop-drop}
use Rattle.std.proofs.lemmas.Bool.{cases_lt}
use Rattle.blocks.specs.Cache.{block_of, count_of}

-- the front of the buffer is as the file has it
pub record IsReadSoFar (from : ℕ) (file into : List ℕ) (done : ℕ) : Type 0 where
  pub within : done ≤ length file - from
  pub same : (i : ℕ) → i < done → get_or into i 0 ≡ get_or file (from + i) 0

pub none_read : (from : ℕ) (file into : List ℕ) → IsReadSoFar from file into 0
none_read from file into = record { within = omega arith; same = λ i lt. absurd (omega (arith, lt)) }

-- the whole buffer was read
pub all_read : (from : ℕ) (file into : List ℕ) (n : ℕ) → length into ≡ n → IsReadSoFar from file into n → (length (take n (drop from file)) ≡ n) × (into ≡ take n (drop from file))
all_read from file into n len read =
    let long : length (take n (drop from file)) ≡ n = omega (arith, length-take n (drop from file), length-drop from file, read.within) in (
      long,
      ext_get_or 0 into (take n (drop from file)) (len ∙ sym long) (λ i lt.
          let here : i < n = omega (arith, lt, len) in
          read.same i here ∙ sym (get_or-drop from file i 0) ∙ sym (get_or-take n (drop from file) i 0 here)),
    )

copied : List ℕ → ℕ → List ℕ → ℕ → ℕ → List ℕ
copied into at bytes skip n = take at into ++ take n (drop skip bytes) ++ drop (at + n) into

length-copied : (into : List ℕ) (at : ℕ) (bytes : List ℕ) (skip n : ℕ) → at + n ≤ length into → skip + n ≤ length bytes → length (copied into at bytes skip n) ≡ length into
unfolding copied
length-copied into at bytes skip n room there = simp (length-append, length-take, length-drop) (omega arith)

get_or-copied_before : (into : List ℕ) (at : ℕ) (bytes : List ℕ) (skip n i : ℕ) → at ≤ length into → i < at → get_or (copied into at bytes skip n) i 0 ≡ get_or into i 0
unfolding copied
get_or-copied_before into at bytes skip n i room lt =
    get_or_append_left (take at into ++ take n (drop skip bytes)) (drop (at + n) into) 0 i (omega (arith, length-append (take at into) (take n (drop skip bytes)), length-take at into))
    ∙ get_or_append_left (take at into) (take n (drop skip bytes)) 0 i (omega (arith, length-take at into))
    ∙ get_or-take at into i 0 lt

get_or-copied_inside : (into : List ℕ) (at : ℕ) (bytes : List ℕ) (skip n i : ℕ) → at ≤ length into → skip + n ≤ length bytes → at ≤ i → i < at + n → get_or (copied into at bytes skip n) i 0 ≡ get_or bytes (skip + (i - at)) 0
unfolding copied
get_or-copied_inside into at bytes skip n i room there ge lt =
    get_or_append_left (take at into ++ take n (drop skip bytes)) (drop (at + n) into) 0 i (omega (arith, length-append (take at into) (take n (drop skip bytes)), length-take at into, length-take n (drop skip bytes), length-drop skip bytes))
    ∙ get_or-append_right (take at into) (take n (drop skip bytes)) at i 0 (omega (arith, length-take at into)) ge
    ∙ get_or-take n (drop skip bytes) (i - at) 0 (omega arith)
    ∙ get_or-drop skip bytes (i - at) 0

count_within : (file : List ℕ) (block count : ℕ) → count ≡ count_of file block → count ≤ length file - 4096 * block
unfolding count_of
count_within file block count is = omega (arith, is)

count_short : (file : List ℕ) (block count n : ℕ) → count ≡ count_of file block → count < n → n ≤ 4096 → length file < 4096 * block + n
unfolding count_of
count_short file block count n is lt fits = omega (arith, is, lt, fits)

-- ---- a part of a block

part_of_front : (xs rest : List ℕ) (skip n count : ℕ) → skip + n ≤ count → count ≤ length xs → take n (drop skip (take count xs ++ rest)) ≡ take n (drop skip xs)
part_of_front xs rest skip n count enough long =
    sym (drop-take skip n (take count xs ++ rest))
    ∙ ap (drop skip) (take-append-le (skip + n) (take count xs) rest (omega (arith, length-take count xs)) ∙ take-take (skip + n) count xs enough)
    ∙ drop-take skip n xs

-- of a block that is kept
pub part_of_kept : (file bytes : List ℕ) (block skip n : ℕ) → skip + n ≤ 4096 → (4096 * block + 4096 ≤ length file) × (bytes ≡ block_of file block) → take n (drop skip bytes) ≡ take n (drop (4096 * block + skip) file)
unfolding block_of
part_of_kept file bytes block skip n fits (whole, is) =
    let rest = drop (4096 * block) file in
    ap (λ (l : List ℕ). take n (drop skip l)) (is ∙ sym (append-nil (take 4096 rest)))
    ∙ part_of_front rest [] skip n 4096 fits (omega (arith, length-drop (4096 * block) file, whole))
    ∙ ap (take n) (drop-drop skip (4096 * block) file)

-- of a block that was read, as far as the file has it
pub part_of_read : (file old buffer : List ℕ) (block skip n count : ℕ) → skip + n ≤ count → count ≡ count_of file block → buffer ≡ take count (drop (4096 * block) file) ++ drop count old → take n (drop skip buffer) ≡ take n (drop (4096 * block + skip) file)
part_of_read file old buffer block skip n count enough counted filled =
    let rest = drop (4096 * block) file in
    ap (λ (l : List ℕ). take n (drop skip l)) filled
    ∙ part_of_front rest (drop count old) skip n count enough (omega (arith, length-drop (4096 * block) file, count_within file block count counted))
    ∙ ap (take n) (drop-drop skip (4096 * block) file)

module _ (from : ℕ) (file into : List ℕ) (done at block skip taken count : ℕ) (is_at : at ≡ from + done) (split : at ≡ 4096 * block + skip) (counted : count ≡ count_of file block) where
  -- a block more
  pub more_read : (new : List ℕ) → skip + taken ≤ count → done + taken ≤ length into → new ≡ take done into ++ take taken (drop (4096 * block + skip) file) ++ drop (done + taken) into
      → IsReadSoFar from file into done → IsReadSoFar from file new (done + taken)
  unfolding copied
  more_read new enough room is so_far =
      let within = count_within file block count counted in
      record {
        within = omega (arith, within, is_at, split, enough);
        same = λ i lt. ap (λ l. get_or l i 0) is ∙ elim (cases_lt i done) [
          | inl before ↦ get_or-copied_before into done file (4096 * block + skip) taken i (omega (arith, room)) before ∙ so_far.same i before
          | inr past ↦ get_or-copied_inside into done file (4096 * block + skip) taken i (omega (arith, room)) (omega (arith, within, enough, lt, past)) past lt
              ∙ ap (λ k. get_or file k 0) (omega (arith, is_at, split, past))
        ];
      }

  -- the disk ends within what is wanted
  pub short_read : (n : ℕ) → count < skip + taken → skip + taken ≤ 4096 → done < n → done + taken ≤ n → length (take n (drop from file)) < n
  short_read n lt fits some room =
      let end = count_short file block count (skip + taken) counted lt fits in
      omega (arith, length-take n (drop from file), length-drop from file, end, is_at, split, room, some)
