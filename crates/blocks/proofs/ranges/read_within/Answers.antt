use Rattle.std.proofs.Common.{◌≡◌, inl, ℕ, ◌+◌, List, ◌++◌, take, drop, None, refl, subst, sym, ap, ◌∙◌, arith}
use Rattle.lru.specs.LruCache.{LruCache}
use Rattle.blocks.specs.Cache.{kept_of, AgreesWith, ShowsFile, KeepsRead}
use Rattle.blocks.proofs.Kept.{agrees_promoted, count_kept}
use Rattle.blocks.proofs.Looked.{read_up}
use Rattle.blocks.proofs.PartsRead.{part_of_kept, part_of_read}
use Rattle.blocks.proofs.ranges.read_within.Goals as goal

-- ---- the block is kept

pub returns-then-copy_kept-clause-count : goal.returns-then-copy_kept-clause-count
returns-then-copy_kept-clause-count g c file shows =
    let was = c.copy_kept.ensures.kept c.if-copy_kept.true in
    count_kept file c.args.block (shows.1 c.args.block was.0 was.1).0

pub returns-then-copy_kept-clause-bytes : goal.returns-then-copy_kept-clause-bytes
returns-then-copy_kept-clause-bytes g c file shows enough =
    let was = c.copy_kept.ensures.kept c.if-copy_kept.true in
    let part = part_of_kept file was.0 c.args.block c.args.skip c.args.n c.requires.there (shows.1 c.args.block was.0 was.1) in
    was.3 ∙ ap (λ (l : List ℕ). take c.args.at c.args.into.now ++ l ++ drop (c.args.at + c.args.n) c.args.into.now) part

pub returns-then-copy_kept-clause-agrees : goal.returns-then-copy_kept-clause-agrees
returns-then-copy_kept-clause-agrees g c file shows =
    let was = c.copy_kept.ensures.kept c.if-copy_kept.true in
    (shows.0, agrees_promoted file c.args.cache.now c.copy_kept.new.self c.args.block was.2 shows.1)

pub returns-then-copy_kept-clause-looked_up : goal.returns-then-copy_kept-clause-looked_up
returns-then-copy_kept-clause-looked_up g c =
    let was = c.copy_kept.ensures.kept c.if-copy_kept.true in
    record { missing = 0; looks_up = inl (refl, was.0, was.1, was.2); asked = omega arith }

-- ---- the disk failed

pub returns-in_err-count-clause-agrees : goal.returns-in_err-count-clause-agrees
returns-in_err-count-clause-agrees g c file shows =
    let gone = c.copy_kept.ensures.missing c.if-copy_kept.false in
    c.in_err-count.ensures.agrees file (shows.0, subst (λ (k : LruCache ℕ (List ℕ)). AgreesWith k file) (sym gone.1) shows.1)

pub returns-in_err-count-clause-looked_up : goal.returns-in_err-count-clause-looked_up
returns-in_err-count-clause-looked_up g c =
    let gone = c.copy_kept.ensures.missing c.if-copy_kept.false in
    read_up c.args.block 0 c.args.into.now c.args.cache.now c.read.new.self (g.D.Disk.view c.args.disk.now).bytes_read (g.D.Disk.view c.read.new.disk).bytes_read gone.0 (inl (c.in_err-count.ensures.unread ∙ gone.1)) c.in_err-count.ensures.meters.bytes_read

-- ---- the block was read

pub returns-clause-count : goal.returns-clause-count
returns-clause-count g c file shows =
    let gone = c.copy_kept.ensures.missing c.if-copy_kept.false in
    c.in_ok-count.ensures.count file (shows.0, subst (λ (k : LruCache ℕ (List ℕ)). AgreesWith k file) (sym gone.1) shows.1)

pub returns-clause-bytes : goal.returns-clause-bytes
returns-clause-bytes g c file shows enough =
    let gone = c.copy_kept.ensures.missing c.if-copy_kept.false in
    let still : ShowsFile (g.D.Disk.view c.args.disk.now).reads_as c.copy_kept.new.self file = (shows.0, subst (λ (k : LruCache ℕ (List ℕ)). AgreesWith k file) (sym gone.1) shows.1) in
    let part = part_of_read file _ c.read.new.into c.args.block c.args.skip c.args.n c.in_ok-count.count enough (c.in_ok-count.ensures.count file still) (c.in_ok-count.ensures.bytes file still) in
    c.copy_part.ensures
    ∙ ap (λ (l : List ℕ). take c.args.at l ++ take c.args.n (drop c.args.skip c.read.new.into) ++ drop (c.args.at + c.args.n) l) gone.2
    ∙ ap (λ (l : List ℕ). take c.args.at c.args.into.now ++ l ++ drop (c.args.at + c.args.n) c.args.into.now) part

pub returns-clause-agrees : goal.returns-clause-agrees
returns-clause-agrees g c file shows =
    let gone = c.copy_kept.ensures.missing c.if-copy_kept.false in
    c.in_ok-count.ensures.agrees file (shows.0, subst (λ (k : LruCache ℕ (List ℕ)). AgreesWith k file) (sym gone.1) shows.1)

pub returns-clause-looked_up : goal.returns-clause-looked_up
returns-clause-looked_up g c =
    let gone = c.copy_kept.ensures.missing c.if-copy_kept.false in
    let keeps = subst (λ (k : LruCache ℕ (List ℕ)). kept_of k c.args.block ≡ None → KeepsRead c.args.block c.read.new.into c.in_ok-count.count k c.read.new.self) gone.1 c.in_ok-count.ensures.keeps in
    read_up c.args.block c.in_ok-count.count c.read.new.into c.args.cache.now c.read.new.self (g.D.Disk.view c.args.disk.now).bytes_read (g.D.Disk.view c.read.new.disk).bytes_read gone.0 (keeps gone.0) c.in_ok-count.ensures.meters.bytes_read
