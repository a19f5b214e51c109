use Rattle.std.proofs.Common.{refl, ◌≡◌, ◌<◌, ℕ, List, [], ◌∷◌, ◌++◌, length, length-append, take, sym, ap, subst, ◌∙◌, arith}
use Rattle.line_server.specs.Sources.{source_view}
use Rattle.std.proofs.KnownBytes.{Consumes-nil, Consumes-trans, Consumes-kept}
use Rattle.line_server.proofs.Alike.{turn_now, turn_on}
use Rattle.std.proofs.lemmas.List.Elements.{All-nil, All-push}
use Rattle.line_server.specs.Reads.{Gave, IsPiece}
use Rattle.line_server.proofs.Unasked.{unasked_on}
use Rattle.line_server.proofs.Progressing.{makes_none, makes_more, makes_end, came_more, is_piece, starts, not_started, unread, stopped, ended, ended_within, unwritten, unwritten_within, fed_now, piece_more, few_bytes, few_before, few_after, few_taken, few_more, at_end, not_none}
use Rattle.std.proofs.lemmas.Bool.{eqb-true}
use Rattle.line_server.proofs.serving.serve.Goals.{in-Ok-answer_line, in-Err-answer_line}
use Rattle.line_server.proofs.serving.serve.Goals as goal

pub loop-reads-init : goal.loop-reads-init
loop-reads-init g c =
    let source = source_view (g.S.Source.is_honest c.args.source.now) (g.S.Source.releases c.args.source.now) in
    ([], [], Consumes-nil _, rw (c.in-Ok.ensures, c.new-state.ensures.value) (starts source g.D.Disk.view (c.args.source.now ≡ c.args.source.now) refl _ _), omega arith, omega arith, c.new-state.ensures.within _, λ h. (h, refl), omega arith, omega arith, makes_none _, All-nil IsPiece, refl, refl)

pub returns-in-Err-clause-served : goal.returns-in-Err-clause-served
returns-in-Err-clause-served g c =
    let source = source_view (g.S.Source.is_honest c.args.source.now) (g.S.Source.releases c.args.source.now) in
    let i = c.loop-reads.invariant in
    unread source g.D.Disk.view _ _ _ _ _ _ _ _ _ _ _ _ i.0 _ _ i.3 (Consumes-kept _ _ _ i.0 i.2 c.in-Err.ensures.bytes) (few_before _ _ _ i.8 c.loop-reads-test.true)
    i.1 i.11 i.12 (makes_more _ _ _ i.1 _ i.10 c.in-Err.ensures.made) (omega (arith, i.13, c.loop-reads-test.true))

pub returns-clause-served : goal.returns-clause-served
returns-clause-served g c =
    let source = source_view (g.S.Source.is_honest c.args.source.now) (g.S.Source.releases c.args.source.now) in
    let i = c.loop-reads.invariant in
    stopped source g.D.Disk.view _ _ _ _ _ _ _ _ _ _ _ _ i.0 _ _ i.3 i.2 (few_bytes _ _ _ i.8 i.9) i.1 i.11 i.12 (omega (arith, i.4, c.loop-reads-test.false)) i.10 (omega (arith, i.9, i.13, c.loop-reads-test.false))

pub returns-then-is_empty-clause-served : goal.returns-then-is_empty-clause-served
returns-then-is_empty-clause-served g c =
    let source = source_view (g.S.Source.is_honest c.args.source.now) (g.S.Source.releases c.args.source.now) in
    let i = c.loop-reads.invariant in
    let e = at_end _ _ _ i.0 c.read.new.piece c.in-Ok-read.n i.2 c.in-Ok-read.ensures.bytes c.if-n-eq0.true (omega (arith, i.5, c.read.auto.piece)) in
    let makes = makes_end _ _ _ i.1 c.in-Ok-read.n c.read.new.piece i.10 c.in-Ok-read.ensures.made c.if-n-eq0.true in
    let lt : length i.1 < c.args.max_reads = omega (arith, i.13, c.loop-reads-test.true) in
    let none : length c.as_bytes.result.now ≡ 0 = eqb-true _ _ (sym c.is_empty.ensures ∙ c.if-is_empty.true) in
    ended source g.D.Disk.view _ _ _ _ _ _ _ _ _ _ _ _ i.0 _ _ i.3 e.0 (few_before _ _ _ i.8 c.loop-reads-test.true) i.1 i.11 i.12 e.1 makes lt (ap length (sym c.as_bytes.ensures) ∙ none)

pub returns-then-n-eq0-clause-served : goal.returns-then-n-eq0-clause-served
returns-then-n-eq0-clause-served g c =
    let source = source_view (g.S.Source.is_honest c.args.source.now) (g.S.Source.releases c.args.source.now) in
    let i = c.loop-reads.invariant in
    let e = at_end _ _ _ i.0 c.read.new.piece c.in-Ok-read.n i.2 c.in-Ok-read.ensures.bytes c.if-n-eq0.true (omega (arith, i.5, c.read.auto.piece)) in
    let makes = makes_end _ _ _ i.1 c.in-Ok-read.n c.read.new.piece i.10 c.in-Ok-read.ensures.made c.if-n-eq0.true in
    let lt : length i.1 < c.args.max_reads = omega (arith, i.13, c.loop-reads-test.true) in
    let step = c.answer_line.ensures.served in
    let some : 0 < length c.loop-reads.line = subst (λ (l : List ℕ). 0 < length l) c.as_bytes.ensures (not_none c.as_bytes.result.now c.is_empty.result c.is_empty.ensures c.if-is_empty.false) in
    let line_is = rw c.as_bytes-then-n-eq0.ensures at step.1 in
    let turn = turn_on _ _ _ _ step.0 _ line_is step.2 in
    let gives = turn_now step.0.outcome step.0.call _ _ source g.D.Disk.view _ _ i.7 turn in
    let unasked = unasked_on _ _ c.loop-reads.state.held c.as_bytes-then-n-eq0.ensures c.answer_line.ensures.unasked in
    elim c.match-answer_line.branch [
      | in-Ok-answer_line w ↦ rw (w.result-is, w.saturating_add.ensures)
          (ended_within source g.D.Disk.view _ _ _ _ _ _ _ _ _ _ _ _ i.0 _ _ i.3 e.0 (few_before _ _ _ i.8 c.loop-reads-test.true) i.1 i.11 i.12 e.1 makes lt step.0.outcome step.0.call _ _ _ some gives (λ none so. unasked none ∙ so) (rw w.in-Ok-answer_line.is at step.3))
      | in-Err-answer_line w ↦ rw w.result-is
          (unwritten_within source g.D.Disk.view _ _ _ _ _ _ _ _ _ _ _ _ i.0 _ _ i.3 e.0 (few_before _ _ _ i.8 c.loop-reads-test.true) i.1 i.11 i.12 e.1 makes lt step.0.outcome step.0.call _ _ _ some gives (λ none so. unasked none ∙ so) (rw w.in-Err-answer_line.is at step.3))
    ]

pub returns-in_default-clause-served : goal.returns-in_default-clause-served
returns-in_default-clause-served g c = not_started (source_view (g.S.Source.is_honest c.args.source.now) (g.S.Source.releases c.args.source.now)) g.D.Disk.view (c.args.source.now ≡ c.args.source.now) refl _ _ _ _ _

pub loop-reads-preserved : goal.loop-reads-preserved
loop-reads-preserved g c =
    let source = source_view (g.S.Source.is_honest c.args.source.now) (g.S.Source.releases c.args.source.now) in
    let i = c.loop-reads.invariant in
    let long : length c.read.new.piece ≡ 4096 = omega (arith, i.5, c.read.auto.piece) in
    let came = take c.in-Ok-read.n c.read.new.piece in
    let f = fed_now source g.D.Disk.view _ i.7 _ _ _ _ (rw c.in-Ok-feed.is at (c.feed.ensures.fed i.3.part i.3.cut.free i.3.buffer_is)) in (
      i.0 ++ came,
      i.1 ++ Gave came ∷ [],
      Consumes-trans _ _ _ _ _ i.2 c.in-Ok-read.ensures.bytes.0,
      rw c.saturating_add-served.ensures (piece_more source g.D.Disk.view _ _ _ _ _ i.0 _ _ i.3 _ _ came _ c.in-Ok-feed.answered f (λ step so. step ∙ so)),
      omega (arith, i.4, length-append i.0 came, c.in-Ok-read.ensures.bound.1, c.if-n-eq0.false),
      long,
      c.feed.ensures.pins,
      λ h. (c.feed.ensures.source (i.7 h).0, c.feed.ensures.stays (i.7 h).0 ∙ (i.7 h).1),
      few_more i.0 came _ i.8 (few_taken c.in-Ok-read.n c.read.new.piece long),
      omega (arith, c.loop-reads-test.true),
      makes_more _ _ _ i.1 _ i.10 c.in-Ok-read.ensures.made,
      All-push IsPiece i.1 (Gave came) i.11 (is_piece c.in-Ok-read.n c.read.new.piece (omega (arith, c.if-n-eq0.false)) c.in-Ok-read.ensures.bound.0 long),
      came_more i.1 (Gave came) i.0 i.12,
      omega (arith, i.13, length-append i.1 (Gave came ∷ [])),
    )

pub returns-in-Err-feed-clause-served : goal.returns-in-Err-feed-clause-served
returns-in-Err-feed-clause-served g c =
    let source = source_view (g.S.Source.is_honest c.args.source.now) (g.S.Source.releases c.args.source.now) in
    let i = c.loop-reads.invariant in
    let long : length c.read.new.piece ≡ 4096 = omega (arith, i.5, c.read.auto.piece) in
    let came = take c.in-Ok-read.n c.read.new.piece in
    let f = fed_now source g.D.Disk.view _ i.7 _ _ _ _ (rw c.in-Err-feed.is at (c.feed.ensures.fed i.3.part i.3.cut.free i.3.buffer_is)) in
    unwritten source g.D.Disk.view _ _ _ _ _ _ _ _ _ _ _ _ _ _ _ i.0 _ came _ _ i.3 f (λ step so. step ∙ so)
    (Consumes-trans _ _ _ _ _ i.2 c.in-Ok-read.ensures.bytes.0)
    (few_after (length (i.0 ++ came)) _ _ (few_more i.0 came _ i.8 (few_taken c.in-Ok-read.n c.read.new.piece long)) c.loop-reads-test.true)
    (few_taken c.in-Ok-read.n c.read.new.piece long)
    i.1 i.11 i.12 (makes_more _ _ _ i.1 _ i.10 c.in-Ok-read.ensures.made) (omega (arith, i.13, c.loop-reads-test.true))

pub feed-requires : goal.feed-requires
feed-requires g c = c.loop-reads.invariant.6

pub answer_line-requires : goal.answer_line-requires
answer_line-requires g c = c.loop-reads.invariant.6

-- ---- what is left of the source

pub returns-in-Err-clause-source : goal.returns-in-Err-clause-source
returns-in-Err-clause-source g c = λ h. (c.loop-reads.invariant.7 h).0

pub returns-in-Err-clause-stays : goal.returns-in-Err-clause-stays
returns-in-Err-clause-stays g c = λ h. (c.loop-reads.invariant.7 h).1

pub returns-then-is_empty-clause-source : goal.returns-then-is_empty-clause-source
returns-then-is_empty-clause-source g c = λ h. (c.loop-reads.invariant.7 h).0

pub returns-then-is_empty-clause-stays : goal.returns-then-is_empty-clause-stays
returns-then-is_empty-clause-stays g c = λ h. (c.loop-reads.invariant.7 h).1

pub returns-then-n-eq0-clause-source : goal.returns-then-n-eq0-clause-source
returns-then-n-eq0-clause-source g c = λ h. c.answer_line.ensures.source (c.loop-reads.invariant.7 h).0

pub returns-then-n-eq0-clause-stays : goal.returns-then-n-eq0-clause-stays
returns-then-n-eq0-clause-stays g c = λ h. c.answer_line.ensures.stays (c.loop-reads.invariant.7 h).0 ∙ (c.loop-reads.invariant.7 h).1

pub returns-in-Err-feed-clause-source : goal.returns-in-Err-feed-clause-source
returns-in-Err-feed-clause-source g c = λ h. c.feed.ensures.source (c.loop-reads.invariant.7 h).0

pub returns-in-Err-feed-clause-stays : goal.returns-in-Err-feed-clause-stays
returns-in-Err-feed-clause-stays g c = λ h. c.feed.ensures.stays (c.loop-reads.invariant.7 h).0 ∙ (c.loop-reads.invariant.7 h).1

pub returns-clause-source : goal.returns-clause-source
returns-clause-source g c = λ h. (c.loop-reads.invariant.7 h).0

pub returns-clause-stays : goal.returns-clause-stays
returns-clause-stays g c = λ h. (c.loop-reads.invariant.7 h).1
