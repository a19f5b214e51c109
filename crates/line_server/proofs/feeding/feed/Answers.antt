use Rattle.std.proofs.Common.{◌≡◌, refl, get_or, drop, ◌+◌, [], ◌++◌, take, sym, ◌∙◌, append-nil}
use Rattle.line_server.specs.Sources.{source_view}
use Rattle.std.proofs.lemmas.Bool.{ne_eqb}
use Rattle.std.proofs.lemmas.List.{take_all}
use Rattle.line_server.proofs.Alike.{turn_now, turn_on}
use Rattle.line_server.proofs.Unasked.{unasked_on}
use Rattle.line_server.proofs.Progressing.{begins, fed, not_replied, line_more, byte_more, next_seen, all_seen}
use Rattle.line_server.proofs.feeding.feed.Goals.{then-byte-eq10+in-Ok, else-byte-eq10}
use Rattle.line_server.proofs.feeding.feed.Goals as goal

pub loop-byte-init : goal.loop-byte-init
loop-byte-init g c =
    let source = source_view (g.S.Source.is_honest c.args.source.now) (g.S.Source.releases c.args.source.now) in
    (λ part free is. rw (append-nil part) (begins source g.D.Disk.view (c.args.source.now ≡ c.args.source.now) refl _ _ part _ free is), c.requires, λ h. (h, refl))

pub returns-in-Err-clause-fed : goal.returns-in-Err-clause-fed
returns-in-Err-clause-fed g c =
    let source = source_view (g.S.Source.is_honest c.args.source.now) (g.S.Source.releases c.args.source.now) in
    let i = c.loop-byte.invariant in
    let piece = c.args.piece.now in
    let at = c.loop-byte.byte-index in
    let step = c.answer_line-replied.ensures.served in
    let line_is = rw c.ended.ensures at step.1 in
    let turn = turn_on _ _ _ _ step.0 _ line_is step.2 in
    let gives = turn_now step.0.outcome step.0.call _ _ source g.D.Disk.view _ _ i.2 turn in
    let unasked = unasked_on _ _ c.loop-byte.state.held c.ended.ensures c.answer_line-replied.ensures.unasked in
    λ part free is.
    not_replied source g.D.Disk.view _ _ _ _ part piece free _ _ _ (take at piece) (drop (at + 1) piece) _ _ _ step.0.outcome step.0.call
    (i.0 part free is)
    (sym (all_seen [] piece at 10 c.loop-byte-test.true c.if-byte-eq10.true))
    gives
    (λ none so. unasked none ∙ so)
    (rw c.in-Err.is at step.3)
    c.clear.ensures

pub returns-in-Err-clause-source : goal.returns-in-Err-clause-source
returns-in-Err-clause-source g c = λ h. c.answer_line-replied.ensures.source (c.loop-byte.invariant.2 h).0

pub returns-in-Err-clause-stays : goal.returns-in-Err-clause-stays
returns-in-Err-clause-stays g c = λ h. c.answer_line-replied.ensures.stays (c.loop-byte.invariant.2 h).0 ∙ (c.loop-byte.invariant.2 h).1

pub loop-byte-preserved : goal.loop-byte-preserved
loop-byte-preserved g c =
    let source = source_view (g.S.Source.is_honest c.args.source.now) (g.S.Source.releases c.args.source.now) in
    let i = c.loop-byte.invariant in
    let piece = c.args.piece.now in
    let at = c.loop-byte.byte-index in
    elim c.if-byte-eq10.branch [
      | then-byte-eq10+in-Ok w ↦
          let step = w.answer_line-replied.ensures in
          let line_is = rw w.ended.ensures at step.served.1 in
          let turn = turn_on _ _ _ _ step.served.0 _ line_is step.served.2 in
          let gives = turn_now step.served.0.outcome step.served.0.call _ _ source g.D.Disk.view _ _ i.2 turn in
          let unasked = unasked_on _ _ c.loop-byte.state.held w.ended.ensures step.unasked in (
            λ part free is. rw (w.writer-is, w.state-is, w.store-is, w.source-is, w.line-is, w.clear.ensures, w.answered-is, w.saturating_add-answered.ensures, ← next_seen part piece at 10 c.loop-byte-test.true w.if-byte-eq10.true)
                (line_more source g.D.Disk.view step.served.0.outcome step.served.0.call _ _ _ _ _ _ (part ++ take at piece) _ _ (i.0 part free is) gives (λ none so. unasked none ∙ so) (rw w.in-Ok.is at step.served.3)),
            rw (w.state-is, w.store-is) step.pins,
            λ h. rw w.source-is (step.source (i.2 h).0, step.stays (i.2 h).0 ∙ (i.2 h).1),
          )
      | else-byte-eq10 w ↦ (
        λ part free is. rw (w.writer-is, w.state-is, w.store-is, w.source-is, w.line-is, w.push.ensures, w.answered-is, ← next_seen part piece at (get_or piece at 0) c.loop-byte-test.true refl)
            (byte_more source g.D.Disk.view _ _ _ _ (part ++ take at piece) _ _ (get_or piece at 0) (i.0 part free is) (ne_eqb _ 10 w.if-byte-eq10.false)),
        rw (w.state-is, w.store-is) i.1,
        λ h. rw w.source-is (i.2 h),
      )
    ]

pub returns-clause-pins : goal.returns-clause-pins
returns-clause-pins g c = c.loop-byte.invariant.1

pub returns-clause-fed : goal.returns-clause-fed
returns-clause-fed g c =
    let source = source_view (g.S.Source.is_honest c.args.source.now) (g.S.Source.releases c.args.source.now) in
    λ part free is.
    fed source g.D.Disk.view _ _ _ _ part c.args.piece.now free _ _
    (rw (take_all c.loop-byte.byte-index c.args.piece.now c.loop-byte-test.false) at (c.loop-byte.invariant.0 part free is))

pub returns-clause-source : goal.returns-clause-source
returns-clause-source g c = λ h. (c.loop-byte.invariant.2 h).0

pub returns-clause-stays : goal.returns-clause-stays
returns-clause-stays g c = λ h. (c.loop-byte.invariant.2 h).1
