use Rattle.std.proofs.Common.{[], map, get_or, refl, subst, take_all}
use Rattle.term_words.specs.declared.ordered.Split.{Split}
use Rattle.term_words.specs.Private.{EachMarked}
use Rattle.term_words.proofs.Marks.{marks_none, marks_next, usable_at}
use Rattle.term_words.proofs.marking.marks_of.Goals as goal

abbrev nothing : Split
nothing =
    record {
      sizes = record { text = record { ref_ptr = (0, 0); now = [] }; entries = record { ref_ptr = (0, 0); now = [] }; rows = record { ref_ptr = (0, 0); now = [] } };
      words = record { text = record { ref_ptr = (0, 0); now = [] }; entries = record { ref_ptr = (0, 0); now = [] }; rows = record { ref_ptr = (0, 0); now = [] } };
    }

pub loop-split-init : goal.loop-split-init
loop-split-init c = rw c.in_ok-marks.ensures.items (refl, marks_none c.args.wanted.now)

pub marked-requires : goal.marked-requires
marked-requires c =
    let splits = c.args.splits.now in
    let i = c.loop-split.split-index in
    (usable_at splits i (get_or splits i nothing) nothing c.loop-split-test.true refl c.requires).1

pub loop-split-preserved : goal.loop-split-preserved
loop-split-preserved c =
    let splits = c.args.splits.now in
    let i = c.loop-split.split-index in
    marks_next (λ m. m.items) splits i (get_or splits i nothing) nothing c.args.wanted.now c.loop-split.marks.items c.push.new.self.items _ c.loop-split-test.true refl c.in_ok-push.ensures.items c.loop-split.invariant c.in_ok-marked.ensures

pub returns : goal.returns
returns c = subst (λ xs. EachMarked xs c.args.wanted.now (map (λ m. m.items) c.loop-split.marks.items)) (take_all c.loop-split.split-index c.args.splits.now c.loop-split-test.false) c.loop-split.invariant.1
