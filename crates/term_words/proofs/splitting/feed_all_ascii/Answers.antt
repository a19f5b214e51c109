use Rattle.std.proofs.Common.{get_or, map, refl, subst, take_all}
use Rattle.std.specs.Char.{to_ascii_lowercase}
use Rattle.term_words.specs.Private.{Follows}
use Rattle.term_words.proofs.Runs.{follows_none}
use Rattle.term_words.proofs.InAscii.{follows_byte, lower_is_low}
use Rattle.term_words.proofs.splitting.feed_all_ascii.Goals as goal

pub loop-byte-init : goal.loop-byte-init
loop-byte-init c = follows_none c.args.text.now.items c.args.keys.now.items c.args.start

pub feed_ascii-requires : goal.feed_ascii-requires
feed_ascii-requires c = rw c.to_ascii_lowercase.ensures.value (lower_is_low _ (c.requires c.loop-byte.byte-index))

pub loop-byte-preserved : goal.loop-byte-preserved
loop-byte-preserved c =
    let l = c.loop-byte in
    follows_byte c.args.text.now.items l.text.items c.feed_ascii.new.text.items c.args.keys.now.items l.keys.items c.feed_ascii.new.keys.items c.args.start l.next c.in_ok-next.next c.args.term.now l.byte-index (get_or c.args.term.now l.byte-index 0) c.loop-byte-test.true refl l.invariant
    (rw c.to_ascii_lowercase.ensures.value at c.in_ok-next.ensures)

pub returns : goal.returns
returns c =
    subst (λ bs. Follows c.args.text.now.items c.args.keys.now.items c.args.start (map to_ascii_lowercase bs) c.loop-byte.text.items c.loop-byte.keys.items c.loop-byte.next)
    (take_all c.loop-byte.byte-index c.args.term.now c.loop-byte-test.false) c.loop-byte.invariant
