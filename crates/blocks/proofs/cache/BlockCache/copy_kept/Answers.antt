use Rattle.std.proofs.Common.{◌≡◌, ℕ, ◌+◌, List, ◌++◌, take, drop, Some, None, refl, subst, sym, ap, ◌∙◌}
use Rattle.lru.specs.LruCache.{LruCache, lru_cache}
use Rattle.blocks.specs.Cache.{kept_of, used}
use Rattle.blocks.proofs.Kept.{promoted_none}
use Rattle.blocks.proofs.cache.BlockCache.copy_kept.Goals as goal

pub returns-in-Some-clause-kept : goal.returns-in-Some-clause-kept
returns-in-Some-clause-kept c is_kept = (
  c.in-Some.kept.now,
  subst (λ (k : LruCache ℕ (List ℕ)). kept_of k c.args.block ≡ Some c.in-Some.kept.now) c.self.view_is (sym c.in-Some.ensures.value),
  c.get.follows.holds-at-none ∙ ap (λ (k : LruCache ℕ (List ℕ)). used c.args.block k) c.self.view_is,
  c.copy_part.ensures ∙ ap (λ (l : List ℕ). take c.args.at c.args.into.now ++ take c.args.n (drop c.args.skip l) ++ drop (c.args.at + c.args.n) c.args.into.now) c.bytes.ensures.bytes,
)

pub returns-clause-missing : goal.returns-clause-missing
returns-clause-missing c is_missing = (
  subst (λ (k : LruCache ℕ (List ℕ)). kept_of k c.args.block ≡ None) c.self.view_is (sym c.in_default.ensures.value),
  c.get.follows.holds-at-none ∙ ap (λ (es : List (ℕ × List ℕ)). lru_cache es c.self.inside.blocks.cap) (promoted_none c.args.block c.self.inside.blocks.entries (sym c.in_default.ensures.value)) ∙ c.self.view_is,
  refl,
)
