-- The blocks of a part, looked up one after the other.
use Rattle.std.specs.Prelude.{Ok, Err, Result, Some, None}
use Rattle.std.specs.List.{AllByRecursion}
use Rattle.std.proofs.Common.{◌≡◌, inl, inr, ℕ, zero, suc, ◌+◌, ◌-◌, ◌*◌, ◌/◌, ◌%◌, ◌<◌, ◌≤◌, min, Bool, true, List, [], ◌∷◌, ◌++◌, refl, sym, ap, subst, ◌∙◌, arith}
use Rattle.lru.specs.LruCache.{LruCache}
use Rattle.blocks.specs.Cache.{kept_of, KeepsRead, LooksUp, LooksUpEach, LooksUpAll, LooksUpSome, LooksUpPart, spanned}
use Rattle.blocks.specs.Private.{IsLookUp}
use Rattle.blocks.proofs.PartsKept.{used_keeps}

-- the blocks from the first byte's to the last one's
pub spanned_some : (from n : ℕ) → 1 ≤ n → spanned from n ≡ (from + (n - 1)) / 4096 + 1 - from / 4096
spanned_some from zero some = absurd (omega (arith, some))
spanned_some from (suc n) some = ap (λ (k : ℕ). (from + k) / 4096 + 1 - from / 4096) (omega arith)

-- the first and the last of them may have other bytes too
pub spanned_within : (from n : ℕ) → 4096 * spanned from n ≤ n + 8192
spanned_within from zero = omega arith
spanned_within from (suc n) = omega arith

-- none of them lies behind the end of the bytes
pub spanned_below : (from n j : ℕ) → j < spanned from n → 4096 * (from / 4096 + j) < from + n
spanned_below from zero j lt = absurd (omega (arith, lt))
spanned_below from (suc n) j lt = omega (arith, lt)

-- ---- look-ups of some blocks

-- no look-up leaves the cache as it was
pub none_looks_up : (test : ℕ → Bool) (cache : LruCache ℕ (List ℕ)) (asked : ℕ) → LooksUpSome test cache cache asked asked
none_looks_up test cache asked = record { blocks = []; pass = tt; missing = 0; all = (refl, refl); asked = omega arith }

all_pass : (test : ℕ → Bool) (blocks others : List ℕ) → AllByRecursion (λ block. test block ≡ true) blocks → AllByRecursion (λ block. test block ≡ true) others → AllByRecursion (λ block. test block ≡ true) (blocks ++ others)
all_pass test [] others first rest = rest
all_pass test (block ∷ blocks) others first rest = (first.0, all_pass test blocks others first.1 rest)

-- blocks, and then others
look_up_more : (blocks others : List ℕ) (n m : ℕ) (old mid new : LruCache ℕ (List ℕ)) → LooksUpAll blocks n old mid → LooksUpAll others m mid new → LooksUpAll (blocks ++ others) (n + m) old new
look_up_more [] others n m old mid new (none, same) rest =
    let sum : m ≡ n + m = omega (arith, none) in
    subst (λ (k : ℕ). LooksUpAll others k old new) sum (subst (λ (cache : LruCache ℕ (List ℕ)). LooksUpAll others m cache new) same rest)
look_up_more (block ∷ blocks) others n m old mid new (next, first, more, sum, here, after) rest =
    (next, first, more + m, omega (arith, sum), here, look_up_more blocks others more m next mid new after rest)

pub some_more : (test : ℕ → Bool) (old mid new : LruCache ℕ (List ℕ)) (before between after : ℕ) → LooksUpSome test old mid before between → LooksUpSome test mid new between after → LooksUpSome test old new before after
some_more test old mid new before between after first rest = record {
  blocks = first.blocks ++ rest.blocks;
  pass = all_pass test first.blocks rest.blocks first.pass rest.pass;
  missing = first.missing + rest.missing;
  all = look_up_more first.blocks rest.blocks first.missing rest.missing old mid new first.all rest.all;
  asked = omega (arith, first.asked, rest.asked);
}

-- as a list, blocks that were looked up from a first one on
record AreLooked (test : ℕ → Bool) (missing : ℕ) (old new : LruCache ℕ (List ℕ)) : Type 0 where
  blocks : List ℕ
  pass : AllByRecursion (λ block. test block ≡ true) blocks
  all : LooksUpAll blocks missing old new

each_looked : (test : ℕ → Bool) (first count missing : ℕ) (old new : LruCache ℕ (List ℕ)) → ((j : ℕ) → j < count → test (first + j) ≡ true) → LooksUpEach first count missing old new → AreLooked test missing old new
each_looked test first zero missing old new may each = record { blocks = []; pass = tt; all = each }
each_looked test first (suc count) missing old new may (mid, before, last, sum, each, one) =
    let on = each_looked test first count before old mid (λ j lt. may j (omega (arith, lt))) each in
    record {
      blocks = on.blocks ++ (first + count) ∷ [];
      pass = all_pass test on.blocks ((first + count) ∷ []) on.pass (may count (omega arith), tt);
      all = subst (λ (k : ℕ). LooksUpAll (on.blocks ++ (first + count) ∷ []) k old new) (sym sum)
          (look_up_more on.blocks ((first + count) ∷ []) before last old mid new on.all (new, last, 0, omega arith, one, (refl, refl)));
    }

-- the blocks of a part, where each of them passes
pub part_looks_up : {T E : Type 0} (test : ℕ → Bool) (result : Result T E) (from n : ℕ) (old new : LruCache ℕ (List ℕ)) (before after : ℕ) → ((j : ℕ) → j < spanned from n → test (from / 4096 + j) ≡ true) → LooksUpPart result from n old new before after
    → LooksUpSome test old new before after
part_looks_up test result from n old new before after may part =
    let are = each_looked test (from / 4096) part.count part.missing old new (λ j lt. may j (omega (arith, lt, part.within))) part.each in
    record { blocks = are.blocks; pass = are.pass; missing = part.missing; all = are.all; asked = part.asked }

-- ---- what the disk is asked for

one_missing : (block missing : ℕ) (old new : LruCache ℕ (List ℕ)) → LooksUp block missing old new → missing ≤ 1
one_missing block missing old new (inl (none, bytes, kept, is)) = omega (arith, none)
one_missing block missing old new (inr (one, gone, is)) = omega (arith, one)

each_missing : (first count missing : ℕ) (old new : LruCache ℕ (List ℕ)) → LooksUpEach first count missing old new → missing ≤ count
each_missing first zero missing old new (none, same) = omega (arith, none)
each_missing first (suc count) missing old new (mid, before, last, sum, each, one) =
    omega (arith, sum, each_missing first count before old mid each, one_missing (first + count) last mid new one)

-- no block is asked for but those of the part, each once at most
pub part_asks : {T E : Type 0} (result : Result T E) (from n : ℕ) (old new : LruCache ℕ (List ℕ)) (before after : ℕ) → LooksUpPart result from n old new before after → after ≤ before + 4096 * spanned from n
part_asks result from n old new before after part = omega (arith, part.asked, part.within, each_missing (from / 4096) part.count part.missing old new part.each)

Kept : (test : ℕ → Bool) (cache : LruCache ℕ (List ℕ)) → Type 0
Kept test cache = (block : ℕ) → test block ≡ true → (bytes : List ℕ) × (kept_of cache block ≡ Some bytes)

none_missing : (test : ℕ → Bool) (blocks : List ℕ) (missing : ℕ) (old new : LruCache ℕ (List ℕ)) → Kept test old → AllByRecursion (λ block. test block ≡ true) blocks → LooksUpAll blocks missing old new → missing ≡ 0
unfolding Kept
none_missing test [] missing old new kept pass (none, same) = none
none_missing test (block ∷ blocks) missing old new kept pass (mid, first, rest, sum, inl (none, bytes, here, is), after) =
    let on = none_missing test blocks rest mid new (λ q passes. let k = kept q passes in (k.0, used_keeps old mid block is q ∙ k.1)) pass.1 after in
    omega (arith, sum, none, on)
none_missing test (block ∷ blocks) missing old new kept pass (mid, first, rest, sum, inr (one, gone, is), after) =
    let here = (kept block pass.0).1 in absurd (cc)

pub kept_asks_nothing : (test : ℕ → Bool) (old new : LruCache ℕ (List ℕ)) (before after : ℕ) → ((block : ℕ) → test block ≡ true → (bytes : List ℕ) × (kept_of old block ≡ Some bytes)) → LooksUpSome test old new before after → after ≤ before
unfolding Kept
kept_asks_nothing test old new before after kept some = omega (arith, some.asked, none_missing test some.blocks some.missing old new kept some.pass some.all)

-- ---- the reading of a part, block by block

-- a block that wasn't kept was asked for, and is kept now, or isn't
pub read_up : (block count : ℕ) (bytes : List ℕ) (old new : LruCache ℕ (List ℕ)) (before after : ℕ) → kept_of old block ≡ None → KeepsRead block bytes count old new → after ≤ before + 4096 → IsLookUp block old new before after
read_up block count bytes old new before after none (inl same) once = record { missing = 1; looks_up = inr (refl, none, inl same); asked = once }
read_up block count bytes old new before after none (inr (whole, is)) once = record { missing = 1; looks_up = inr (refl, none, inr (bytes, is)); asked = once }

-- where the reading of a part has come to
pub record IsLookedUp (from n done : ℕ) (old now : LruCache ℕ (List ℕ)) (before after : ℕ) : Type 0 where
  pub count : ℕ
  pub missing : ℕ
  pub each : LooksUpEach (from / 4096) count missing old now
  pub next : done < n → (from + done) / 4096 ≡ from / 4096 + count
  pub within : count ≤ spanned from n
  pub whole : done ≡ n → count ≡ spanned from n
  pub asked : after ≤ before + 4096 * missing

pub none_looked_up : (from n : ℕ) (cache : LruCache ℕ (List ℕ)) (asked : ℕ) → IsLookedUp from n 0 cache cache asked asked
none_looked_up from n cache asked = record {
  count = 0;
  missing = 0;
  each = (refl, refl);
  next = λ more. omega arith;
  within = omega arith;
  whole = λ all. ap (λ (k : ℕ). spanned from k) all;
  asked = omega arith;
}

module _ (from n done : ℕ) (old now new : LruCache ℕ (List ℕ)) (start before after : ℕ) (so_far : IsLookedUp from n done old now start before) (more : done < n) (read : IsLookUp ((from + done) / 4096) now new before after) where
  -- there was room for one block more
  pub within_next : suc so_far.count ≤ spanned from n
  within_next = let here = so_far.next more in omega (arith, here, more, spanned_some from n (omega (arith, more)))

  pub each_next : LooksUpEach (from / 4096) (suc so_far.count) (so_far.missing + read.missing) old new
  each_next = (now, so_far.missing, read.missing, refl, so_far.each, subst (λ (block : ℕ). LooksUp block read.missing now new) (so_far.next more) read.looks_up)

  unfoldable pub looked_up_next : (taken : ℕ) → taken ≡ min (n - done) (4096 - (from + done) % 4096) → IsLookedUp from n (done + taken) old new start after
  looked_up_next taken is =
      let here = so_far.next more in
      record {
        count = suc so_far.count;
        missing = so_far.missing + read.missing;
        each = each_next;
        next = λ rest. omega (arith, here, is, rest);
        within = within_next;
        whole = λ all. omega (arith, here, is, all, more, spanned_some from n (omega (arith, more)));
        asked = omega (arith, so_far.asked, read.asked);
      }

  -- the disk failed, or ends within the block
  pub ended : {T E : Type 0} (e : E) → LooksUpPart {T = T} (Err e) from n old new start after
  ended e = record {
    count = suc so_far.count;
    missing = so_far.missing + read.missing;
    each = each_next;
    within = within_next;
    whole = tt;
    asked = omega (arith, so_far.asked, read.asked);
  }

pub all_looked_up : {T E : Type 0} (x : T) (from n done : ℕ) (old now : LruCache ℕ (List ℕ)) (before after : ℕ) → done ≡ n → IsLookedUp from n done old now before after → LooksUpPart {E = E} (Ok x) from n old now before after
all_looked_up x from n done old now before after all so_far = record {
  count = so_far.count;
  missing = so_far.missing;
  each = so_far.each;
  within = so_far.within;
  whole = so_far.whole all;
  asked = so_far.asked;
}
