-- What looking up leaves of the cache, and which blocks are looked up.
use Rattle.std.proofs.Common.{◌≡◌, ℕ, zero, suc, ◌+◌, ◌*◌, ◌<◌, ◌≤◌, ◌||◌, Bool, true, false, ◌/◌, List, [], ◌∷◌, length, get_or, inl, inr, refl, sym, ap, subst, ◌∙◌, arith}
use Rattle.std.specs.Prelude.{Option, Some, None, Result, Ok, Err, OnOk, OnErr}
use Rattle.std.proofs.lemmas.Bool.Decides.{nat_tests}
use Rattle.lru.specs.LruCache.{LruCache}
use Rattle.blocks.specs.declared.extent.Extent.{Extent}
use Rattle.blocks.specs.Cache.{LooksUp, LooksUpAll, LooksUpSome, LooksUpPart, Forgets, is_in}
use Rattle.blocks.proofs.Looked.{none_looks_up, part_looks_up, spanned_below}
use Rattle.directory.specs.declared.entry.Entry.{Entry}
use Rattle.directory.specs.Places.{extent_of}
use Rattle.history_store.specs.Queries.{is_listed, LooksUpAndForgets}

-- there is room for as many blocks as before
one_capacity : (block missing : ℕ) (old new : LruCache ℕ (List ℕ)) → LooksUp block missing old new → new.cap ≡ old.cap
one_capacity block missing old new (inl (none, bytes, kept, is)) = ap (λ (c : LruCache ℕ (List ℕ)). c.cap) is
one_capacity block missing old new (inr (one, gone, inl is)) = ap (λ (c : LruCache ℕ (List ℕ)). c.cap) is
one_capacity block missing old new (inr (one, gone, inr (bytes, is))) = ap (λ (c : LruCache ℕ (List ℕ)). c.cap) is

all_capacity : (blocks : List ℕ) (missing : ℕ) (old new : LruCache ℕ (List ℕ)) → LooksUpAll blocks missing old new → new.cap ≡ old.cap
all_capacity [] missing old new (none, same) = ap (λ (c : LruCache ℕ (List ℕ)). c.cap) same
all_capacity (block ∷ blocks) missing old new (mid, first, after, sum, here, rest) = all_capacity blocks after mid new rest ∙ one_capacity block first old mid here

pub capacity_stays : (test : ℕ → Bool) (old new : LruCache ℕ (List ℕ)) (before after : ℕ) → LooksUpSome test old new before after → new.cap ≡ old.cap
capacity_stays test old new before after some = all_capacity some.blocks some.missing old new some.all

-- a block of a listed segment
listed_at : (entries : List Entry) (k : ℕ) (d : Entry) (block : ℕ) → k < length entries → is_in (extent_of (get_or entries k d)) block ≡ true → is_listed entries block ≡ true
listed_at [] k d block below here = absurd (omega (arith, below))
listed_at (entry ∷ entries) zero d block below here = ap (λ (b : Bool). b || is_listed entries block) here
listed_at (entry ∷ entries) (suc k) d block below here = either (is_in (extent_of entry) block) (is_listed entries block) (listed_at entries k d block (omega (arith, below)) here)
  where
    either : (b c : Bool) → c ≡ true → (b || c) ≡ true
    either true c is = refl
    either false c is = is

within_extent : (entry : Entry) (block : ℕ) → entry.first ≤ block → 4096 * block < 4096 * entry.first + entry.bytes → is_in (extent_of entry) block ≡ true
within_extent entry block above below = grind (arith, nat_tests)

-- the blocks of a record that is within a listed segment
pub record_looks_up : {T E : Type 0} (result : Result T E) (entries : List Entry) (k : ℕ) (d : Entry) (at n : ℕ) (old new : LruCache ℕ (List ℕ)) (before after : ℕ) → k < length entries → at + n ≤ (get_or entries k d).bytes
    → LooksUpPart result (4096 * (get_or entries k d).first + at) n old new before after → LooksUpSome (is_listed entries) old new before after
record_looks_up result entries k d at n old new before after below fits part =
    let entry = get_or entries k d in
    let from = 4096 * entry.first + at in
    part_looks_up (is_listed entries) result from n old new before after
    (λ j lt. let under = spanned_below from n j lt in listed_at entries k d (from / 4096 + j) below (within_extent entry (from / 4096 + j) (omega arith) (omega (arith, under, fits)))) part

-- ---- and then the blocks of an extent are forgotten

-- nothing was looked up
pub none_stepped : (test : ℕ → Bool) (extent : Option Extent) (cache : LruCache ℕ (List ℕ)) (asked : ℕ) → LooksUpAndForgets test extent cache cache asked asked
none_stepped test extent cache asked = (cache, none_looks_up test cache asked, inl refl)

-- there is room for as many blocks as before
pub stepped_capacity : (test : ℕ → Bool) (extent : Option Extent) (old new : LruCache ℕ (List ℕ)) (before after : ℕ) → LooksUpAndForgets test extent old new before after → new.cap ≡ old.cap
stepped_capacity test None old new before after (mid, some, inl same) = ap (λ (c : LruCache ℕ (List ℕ)). c.cap) same ∙ capacity_stays test old mid before after some
stepped_capacity test None old new before after (mid, some, inr same) = ap (λ (c : LruCache ℕ (List ℕ)). c.cap) same ∙ capacity_stays test old mid before after some
stepped_capacity test (Some extent) old new before after (mid, some, inl same) = ap (λ (c : LruCache ℕ (List ℕ)). c.cap) same ∙ capacity_stays test old mid before after some
stepped_capacity test (Some extent) old new before after (mid, some, inr forgets) = forgets.capacity ∙ capacity_stays test old mid before after some

-- blocks were looked up, and then the extent was written, or that failed
pub part_stepped : {T E : Type 0} (result : Result T E) (test : ℕ → Bool) (extent : Extent) (old mid new : LruCache ℕ (List ℕ)) (before between after : ℕ) → LooksUpSome test old mid before between → after ≡ between → OnOk result (Forgets (is_in extent) mid new) → OnErr result (new ≡ mid)
    → LooksUpAndForgets test (Some extent) old new before after
part_stepped (Ok x) test extent old mid new before between after some same ok err = (mid, subst (λ (n : ℕ). LooksUpSome test old mid before n) (sym same) some, inr ok)
part_stepped (Err e) test extent old mid new before between after some same ok err = (mid, subst (λ (n : ℕ). LooksUpSome test old mid before n) (sym same) some, inl err)
