use Rattle.std.proofs.Common.{ℕ, refl, sym, ap, ◌∙◌, inl}
use Rattle.line_server.specs.Sources.{source_view}
use Rattle.question_model.specs.Questions.{question_of}
use Rattle.line_commands.specs.Commands.{Ask, At, Pin, Merge, Step, Publish, Abandon, Trim, Status}
use Rattle.line_server.specs.Pins.{pin_of}
use Rattle.line_server.specs.Replies.{server}
use Rattle.line_server.specs.Private.{noted}
use Rattle.line_server.proofs.Responding.{any_source, within_more, unpinned}
use Rattle.line_server.proofs.answering.respond.Goals as goal

pub returns-in-Import-clause-pins : goal.returns-in-Import-clause-pins
returns-in-Import-clause-pins g c = within_more _ _ _ (c.import.ensures.response c.args.session c.args.state.now (rw c.in-Import.is at c.requires.free)).grows c.requires.within

pub returns-in-Import-clause-response : goal.returns-in-Import-clause-response
returns-in-Import-clause-response g c = rw c.in-Import.is (c.import.ensures.response c.args.session c.args.state.now (rw c.in-Import.is at c.requires.free))

pub returns-in-Check-clause-pins : goal.returns-in-Check-clause-pins
returns-in-Check-clause-pins g c = within_more _ _ _ (c.check.ensures.response c.args.session c.args.state.now (rw c.in-Check.is at c.requires.free)).grows c.requires.within

pub returns-in-Check-clause-response : goal.returns-in-Check-clause-response
returns-in-Check-clause-response g c = rw c.in-Check.is (c.check.ensures.response c.args.session c.args.state.now (rw c.in-Check.is at c.requires.free))

pub returns-in-Import-clause-unasked : goal.returns-in-Import-clause-unasked
returns-in-Import-clause-unasked g c = λ only. absurd (only c.in-Import.name.now (rw c.in-Import.is refl))

pub returns-in-Check-clause-unasked : goal.returns-in-Check-clause-unasked
returns-in-Check-clause-unasked g c = λ only. absurd (only c.in-Check.name.now (rw c.in-Check.is refl))

pub ask-requires-clause-asked : goal.ask-requires-clause-asked
ask-requires-clause-asked g c = let asked = rw c.in-Ask.is at c.requires.asked in asked

pub returns-in-Ask-clause-pins : goal.returns-in-Ask-clause-pins
returns-in-Ask-clause-pins g c = within_more _ _ _ (c.ask.ensures (g.S.Source.releases c.args.source.now) c.args.session c.args.state.now (Ask (question_of c.in-Ask.question)) (inl (refl, (sym (c.pin_of-pin.ensures ∙ ap (λ (k : ℕ). pin_of c.args.state.now.pins c.args.session k) c.imports.ensures)))) (rw c.in-Ask.is at c.requires.has_all)).grows c.requires.within

pub returns-in-Ask-clause-response : goal.returns-in-Ask-clause-response
returns-in-Ask-clause-response g c =
    rw c.in-Ask.is (any_source (source_view (g.S.Source.is_honest c.args.source.now) (g.S.Source.releases c.args.source.now)) g.D.Disk.view c.ask.result c.args.session (Ask (question_of c.in-Ask.question)) (server c.args.state.now c.args.store.now) (server (noted c.ask.result c.args.state.now) c.ask.new.store) (c.ask.ensures (g.S.Source.releases c.args.source.now) c.args.session c.args.state.now (Ask (question_of c.in-Ask.question)) (inl (refl, (sym (c.pin_of-pin.ensures ∙ ap (λ (k : ℕ). pin_of c.args.state.now.pins c.args.session k) c.imports.ensures)))) (rw c.in-Ask.is at c.requires.has_all)))

pub ask_at-requires-clause-has_all : goal.ask_at-requires-clause-has_all
ask_at-requires-clause-has_all g c = let has_all = rw c.in-At.is at c.requires.has_all in has_all

pub ask_at-requires-clause-asked : goal.ask_at-requires-clause-asked
ask_at-requires-clause-asked g c = let asked = rw c.in-At.is at c.requires.asked in (asked.1.0, asked.1.1)

pub returns-in-At-clause-pins : goal.returns-in-At-clause-pins
returns-in-At-clause-pins g c = within_more _ _ _ (c.ask_at.ensures (g.S.Source.releases c.args.source.now) c.args.session c.args.state.now (rw c.in-At.is at c.requires.free)).grows c.requires.within

pub returns-in-At-clause-response : goal.returns-in-At-clause-response
returns-in-At-clause-response g c =
    rw c.in-At.is (any_source (source_view (g.S.Source.is_honest c.args.source.now) (g.S.Source.releases c.args.source.now)) g.D.Disk.view c.ask_at.result c.args.session (At c.in-At.number (question_of c.in-At.question)) (server c.args.state.now c.args.store.now) (server (noted c.ask_at.result c.args.state.now) c.ask_at.new.store) (c.ask_at.ensures (g.S.Source.releases c.args.source.now) c.args.session c.args.state.now (rw c.in-At.is at c.requires.free)))

pub returns-in-Pin-clause-response : goal.returns-in-Pin-clause-response
returns-in-Pin-clause-response g c =
    rw c.in-Pin.is (any_source (source_view (g.S.Source.is_honest c.args.source.now) (g.S.Source.releases c.args.source.now)) g.D.Disk.view c.pin_session.result c.args.session (Pin c.in-Pin.number) (server c.args.state.now c.args.store.now) (server (noted c.pin_session.result c.pin_session.new.state) c.args.store.now) (c.pin_session.ensures.response (g.S.Source.releases c.args.source.now)))

pub returns-in-Unpin-clause-response : goal.returns-in-Unpin-clause-response
returns-in-Unpin-clause-response g c =
    rw (c.in-Unpin.is, c.pin.ensures) (unpinned (source_view (g.S.Source.is_honest c.args.source.now) (g.S.Source.releases c.args.source.now)) g.D.Disk.view c.args.session c.args.state.now c.args.store.now c.reply_done.result c.reply_done.ensures)

pub returns-in-Status-clause-response : goal.returns-in-Status-clause-response
returns-in-Status-clause-response g c =
    rw c.in-Status.is (any_source (source_view (g.S.Source.is_honest c.args.source.now) (g.S.Source.releases c.args.source.now)) g.D.Disk.view c.status.result c.args.session Status (server c.args.state.now c.args.store.now) (server (noted c.status.result c.args.state.now) c.args.store.now) (c.status.ensures (g.S.Source.releases c.args.source.now) c.args.session c.args.state.now (rw c.in-Status.is at c.requires.free)))

pub returns-in-Merge-clause-pins : goal.returns-in-Merge-clause-pins
returns-in-Merge-clause-pins g c = within_more _ _ _ (c.answer_merge.ensures (g.S.Source.releases c.args.source.now) c.args.session c.args.state.now (rw c.in-Merge.is at c.requires.free)).grows c.requires.within

pub returns-in-Merge-clause-response : goal.returns-in-Merge-clause-response
returns-in-Merge-clause-response g c =
    rw c.in-Merge.is (any_source (source_view (g.S.Source.is_honest c.args.source.now) (g.S.Source.releases c.args.source.now)) g.D.Disk.view c.answer_merge.result c.args.session Merge (server c.args.state.now c.args.store.now) (server (noted c.answer_merge.result c.args.state.now) c.answer_merge.new.store) (c.answer_merge.ensures (g.S.Source.releases c.args.source.now) c.args.session c.args.state.now (rw c.in-Merge.is at c.requires.free)))

pub returns-in-Step-clause-pins : goal.returns-in-Step-clause-pins
returns-in-Step-clause-pins g c = within_more _ _ _ (c.answer_step.ensures (g.S.Source.releases c.args.source.now) c.args.session c.args.state.now (rw c.in-Step.is at c.requires.free)).grows c.requires.within

pub returns-in-Step-clause-response : goal.returns-in-Step-clause-response
returns-in-Step-clause-response g c =
    rw c.in-Step.is (any_source (source_view (g.S.Source.is_honest c.args.source.now) (g.S.Source.releases c.args.source.now)) g.D.Disk.view c.answer_step.result c.args.session (Step c.in-Step.rows) (server c.args.state.now c.args.store.now) (server (noted c.answer_step.result c.args.state.now) c.answer_step.new.store) (c.answer_step.ensures (g.S.Source.releases c.args.source.now) c.args.session c.args.state.now (rw c.in-Step.is at c.requires.free)))

pub returns-in-Publish-clause-pins : goal.returns-in-Publish-clause-pins
returns-in-Publish-clause-pins g c = within_more _ _ _ (c.answer_publish.ensures (g.S.Source.releases c.args.source.now) c.args.session c.args.state.now (rw c.in-Publish.is at c.requires.free)).grows c.requires.within

pub returns-in-Publish-clause-response : goal.returns-in-Publish-clause-response
returns-in-Publish-clause-response g c =
    rw c.in-Publish.is (any_source (source_view (g.S.Source.is_honest c.args.source.now) (g.S.Source.releases c.args.source.now)) g.D.Disk.view c.answer_publish.result c.args.session Publish (server c.args.state.now c.args.store.now) (server (noted c.answer_publish.result c.args.state.now) c.answer_publish.new.store) (c.answer_publish.ensures (g.S.Source.releases c.args.source.now) c.args.session c.args.state.now (rw c.in-Publish.is at c.requires.free)))

pub returns-in-Abandon-clause-pins : goal.returns-in-Abandon-clause-pins
returns-in-Abandon-clause-pins g c = within_more _ _ _ (c.answer_abandon.ensures (g.S.Source.releases c.args.source.now) c.args.session c.args.state.now (rw c.in-Abandon.is at c.requires.free)).grows c.requires.within

pub returns-in-Abandon-clause-response : goal.returns-in-Abandon-clause-response
returns-in-Abandon-clause-response g c =
    rw c.in-Abandon.is (any_source (source_view (g.S.Source.is_honest c.args.source.now) (g.S.Source.releases c.args.source.now)) g.D.Disk.view c.answer_abandon.result c.args.session Abandon (server c.args.state.now c.args.store.now) (server (noted c.answer_abandon.result c.args.state.now) c.answer_abandon.new.store) (c.answer_abandon.ensures (g.S.Source.releases c.args.source.now) c.args.session c.args.state.now (rw c.in-Abandon.is at c.requires.free)))

pub returns-in-Trim-clause-pins : goal.returns-in-Trim-clause-pins
returns-in-Trim-clause-pins g c = within_more _ _ _ (c.answer_trim.ensures (g.S.Source.releases c.args.source.now) c.args.session c.args.state.now (rw c.in-Trim.is at c.requires.free)).grows c.requires.within

pub returns-in-Trim-clause-response : goal.returns-in-Trim-clause-response
returns-in-Trim-clause-response g c =
    rw c.in-Trim.is (any_source (source_view (g.S.Source.is_honest c.args.source.now) (g.S.Source.releases c.args.source.now)) g.D.Disk.view c.answer_trim.result c.args.session Trim (server c.args.state.now c.args.store.now) (server (noted c.answer_trim.result c.args.state.now) c.answer_trim.new.store) (c.answer_trim.ensures (g.S.Source.releases c.args.source.now) c.args.session c.args.state.now (rw c.in-Trim.is at c.requires.free)))
