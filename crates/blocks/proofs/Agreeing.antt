-- What is kept of a file that is written.
use Rattle.std.specs.Prelude.{All}
use Rattle.std.proofs.Common.{◌≡◌, ◌⊎◌, inl, inr, ℕ, ◌+◌, ◌*◌, ◌<◌, ◌≤◌, Bool, false, List, [], length, get_or, take, drop, Some, None, nat_le, nat_lt, sym, ◌∙◌, arith, length-take}
use Rattle.std.proofs.lemmas.Bool.Decides.{nat_tests}
use Rattle.std.proofs.lemmas.List.{get_or-take}
use Rattle.std.proofs.lemmas.List.Elements.{All-nil, All-cons, All-append}
use Rattle.std.proofs.lemmas.Bool.{cond-true, cond-false, leb-false}
use Rattle.lru.specs.LruCache.{LruCache}
use Rattle.disk_model.specs.Disk.{IsOutside}
use Rattle.blocks.specs.declared.extent.Extent.{Extent}
use Rattle.blocks.specs.Extents.{block_count, byte_range}
use Rattle.blocks.specs.Cache.{block_of, kept_of, is_in, Forgets, IsBeside, EmptyAgrees, StillAgrees, ForgetsBeside, ForgetsBoth, CutAgrees}
use Rattle.blocks.proofs.Windows.{window_same, window_elsewhere}
use Rattle.blocks.proofs.Kept.{by_answer}

pub empty_agrees : EmptyAgrees
empty_agrees cap file block bytes kept = cc

outside_of : (block i : ℕ) (range : ℕ × ℕ) → IsBeside block range → 4096 * block ≤ i → i < 4096 * block + 4096 → IsOutside i range
outside_of block i range (inl before) ge lt = inl (omega arith)
outside_of block i range (inr behind) ge lt = inr (omega arith)

all_outside : (block i : ℕ) (ranges : List (ℕ × ℕ)) → All (IsBeside block) ranges → 4096 * block ≤ i → i < 4096 * block + 4096 → All (IsOutside i) ranges
all_outside block i ranges beside ge lt = λ k d in_list. outside_of block i (get_or ranges k d) (beside k d in_list) ge lt

block_window : (file next : List ℕ) (block : ℕ) → take 4096 (drop (4096 * block) next) ≡ take 4096 (drop (4096 * block) file) → block_of next block ≡ block_of file block
unfolding block_of
block_window file next block same = same

pub still_agrees : StillAgrees
still_agrees ranges old new file next agrees same keeps block bytes kept =
    let was = keeps block bytes kept in
    let is = agrees block bytes was.0 in (
      omega (arith, is.0, same.no_shorter),
      is.1 ∙ sym (block_window file next block (window_elsewhere ranges (4096 * block) 4096 file next same is.0 (λ i ge lt. all_outside block i ranges was.1 ge lt))),
    )

-- what is kept after a forgetting
pub kept_still : (test : ℕ → Bool) (old new : LruCache ℕ (List ℕ)) (block : ℕ) (bytes : List ℕ) → Forgets test old new → kept_of new block ≡ Some bytes → (kept_of old block ≡ Some bytes) × (test block ≡ false)
kept_still test old new block bytes forgets kept = by_answer (test block)
    (λ y. let wrong : None ≡ Some bytes = sym (forgets.each block ∙ cond-true _ None (kept_of old block) y) ∙ kept in cc)
    (λ n. (sym (forgets.each block ∙ cond-false _ None (kept_of old block) n) ∙ kept, n))

not_in : (extent : Extent) (block : ℕ) → is_in extent block ≡ false → (block < extent.first) ⊎ (extent.first + block_count extent ≤ block)
not_in extent block out = by_answer (nat_le extent.first block)
    (λ y. by_answer (nat_lt block (extent.first + block_count extent)) (λ z. cc) (λ n. inr (grind (arith, nat_tests))))
    (λ n. inl (grind (arith, nat_tests)))

beside_extent : (extent : Extent) (block : ℕ) → (block < extent.first) ⊎ (extent.first + block_count extent ≤ block) → IsBeside block (byte_range extent)
beside_extent extent block (inl before) = inl (omega arith)
beside_extent extent block (inr behind) = inr (omega arith)

pub forgets_beside : ForgetsBeside
forgets_beside extent old new forgets block bytes kept =
    let was = kept_still (is_in extent) old new block bytes forgets kept in
    (was.0, All-cons (IsBeside block) (byte_range extent) [] (beside_extent extent block (not_in extent block was.1)) (All-nil (IsBeside block)))

pub forgets_both : ForgetsBoth
forgets_both ranges others old mid new first second block bytes kept =
    let later = second block bytes kept in
    let before = first block bytes later.0 in
    (before.0, All-append (IsBeside block) ranges others before.1 later.1)

pub cut_agrees : CutAgrees
cut_agrees end old new file agrees forgets block bytes kept =
    let was = kept_still (nat_le end) old new block bytes forgets kept in
    let is = agrees block bytes was.0 in
    let lower : block < end = leb-false end block was.1 in
    let within : 4096 * block + 4096 ≤ length (take (4096 * end) file) = omega (arith, length-take (4096 * end) file, is.0, lower) in (
      within,
      is.1 ∙ block_window (take (4096 * end) file) file block (window_same (4096 * block) 4096 file (take (4096 * end) file) is.0 within (λ i ge lt. sym (get_or-take (4096 * end) file i 0 (omega (arith, lt, lower))))),
    )
