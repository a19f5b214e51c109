-- The reading of a part whose blocks are kept.
use Rattle.std.proofs.Common.{◌≡◌, ℕ, ◌*◌, ◌+◌, ◌<◌, List, Some, Result, Ok, Err, arith, ap, ◌∙◌}
use Rattle.lru.specs.LruCache.{LruCache}
use Rattle.blocks.specs.Cache.{kept_of, used, KeepsPart, KeepsAll}
use Rattle.blocks.proofs.Kept.{lookup-promoted}

-- the next block of the part is still kept
pub next_kept : (cache now : LruCache ℕ (List ℕ)) (from n done at block skip : ℕ) → at ≡ from + done
    → at ≡ 4096 * block + skip → skip < 4096 → done < n → KeepsPart cache from n → KeepsAll cache now
    → (bytes : List ℕ) × (kept_of now block ≡ Some bytes)
next_kept cache now from n done at block skip is_at split below more part all =
    let here = part block (omega (arith, is_at, split, more)) (omega (arith, is_at, split, below)) in
    (here.0, all block ∙ here.1)

-- a block that is used stays kept, and so do all others
pub used_keeps : (old new : LruCache ℕ (List ℕ)) (block : ℕ) → new ≡ used block old → KeepsAll old new
used_keeps old new block is q = ap (λ k. kept_of k q) is ∙ lookup-promoted block q old.entries

pub keeps_on : (a b c : LruCache ℕ (List ℕ)) → KeepsAll a b → KeepsAll b c → KeepsAll a c
keeps_on a b c first second q = second q ∙ first q

abbrev pub count_in : {E : Type 0} → Result ℕ E → ℕ
count_in (Ok count) = count
count_in (Err e) = 0
