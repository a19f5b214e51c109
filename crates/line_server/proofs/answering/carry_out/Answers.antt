use Rattle.std.proofs.Common.{Err, sym, subst, ◌∙◌}
use Rattle.std.proofs.lemmas.Bool.{false≢true}
use Rattle.line_server.specs.Sources.{source_view}
use Rattle.line_commands.specs.Requests.{command_of}
use Rattle.line_server.specs.declared.refusal.LineRefusal.{LineRefusal}
use Rattle.line_server.specs.Replies.{server}
use Rattle.line_server.specs.Turns.{HasTurn, IsToldBy}
use Rattle.line_server.proofs.Responding.{nothing_asked, held_back, for_lack}
use Rattle.line_server.proofs.answering.carry_out.Goals as goal

pub returns-in-Err-clause-turn : goal.returns-in-Err-clause-turn
returns-in-Err-clause-turn g c = λ line reads.
    let is = rw c.in-Err.is at reads in
    nothing_asked (source_view (g.S.Source.is_honest c.args.source.now) (g.S.Source.releases c.args.source.now)) g.D.Disk.view line c.in-Err.reason (server c.args.state.now c.args.store.now) is

pub respond-requires-clause-session : goal.respond-requires-clause-session
respond-requires-clause-session g c = let asks = rw c.in-Ok.is at c.requires.read.1 in asks.is_session

pub respond-requires-clause-asked : goal.respond-requires-clause-asked
respond-requires-clause-asked g c = let asks = rw c.in-Ok.is at c.requires.read.1 in (asks.arguments, asks.spelled)

pub returns-in-Ok-respond-clause-turn : goal.returns-in-Ok-respond-clause-turn
returns-in-Ok-respond-clause-turn g c = λ line reads. c.in-Ok-respond.ensures.response.turned line (rw c.in-Ok.is at reads)

pub returns-in-Err-respond-clause-turn : goal.returns-in-Err-respond-clause-turn
returns-in-Err-respond-clause-turn g c = λ line reads. rw c.note.ensures (c.in-Err-respond.ensures.response.turned line (rw c.in-Ok.is at reads))

pub returns-in-Ok-respond-clause-unasked : goal.returns-in-Ok-respond-clause-unasked
returns-in-Ok-respond-clause-unasked g c = λ line reads only.
    let asks = rw c.in-Ok.is at reads in
    c.in-Ok-respond.ensures.unasked (λ name named. false≢true (sym c.if-holds_back.false ∙ c.holds_back.ensures.1 (only c.in-Ok.request.session (command_of c.in-Ok.request.command) name asks named)))

pub returns-in-Err-respond-clause-unasked : goal.returns-in-Err-respond-clause-unasked
returns-in-Err-respond-clause-unasked g c = λ line reads only.
    let asks = rw c.in-Ok.is at reads in
    c.in-Err-respond.ensures.unasked (λ name named. false≢true (sym c.if-holds_back.false ∙ c.holds_back.ensures.1 (only c.in-Ok.request.session (command_of c.in-Ok.request.command) name asks named)))

pub returns-then-holds_back-clause-turn : goal.returns-then-holds_back-clause-turn
returns-then-holds_back-clause-turn g c = λ line reads.
    let asks = rw c.in-Ok.is at reads in
    let asked = (source_view (g.S.Source.is_honest c.args.source.now) (g.S.Source.releases c.args.source.now)) in
    let state = server c.args.state.now c.args.store.now in
    subst (λ (refusal : LineRefusal). HasTurn asked g.D.Disk.view line state state (λ turn. IsToldBy (Err refusal) turn.outcome)) (sym c.reason.ensures) (held_back asked g.D.Disk.view line c.in-Ok.request.session (command_of c.in-Ok.request.command) state asks (c.holds_back.ensures.0 c.if-holds_back.true))

pub returns-in-Some-clause-turn : goal.returns-in-Some-clause-turn
returns-in-Some-clause-turn g c = λ line reads.
    let asks = rw c.in-Ok.is at reads in
    for_lack (source_view (g.S.Source.is_honest c.args.source.now) (g.S.Source.releases c.args.source.now)) g.D.Disk.view line c.in-Ok.request.session (command_of c.in-Ok.request.command) (server c.args.state.now c.args.store.now) asks c.in-Some.lack c.in-Some.ensures

pub respond-requires-clause-has_all : goal.respond-requires-clause-has_all
respond-requires-clause-has_all g c = λ any. c.in_default.ensures any.0 any.1
