-- A server that only reads writes nothing, and has no command that changes the store.
use Rattle.std.proofs.Common.{◌≡◌, ◌≢◌, ◌↔◌, ℕ, List, [], ◌∷◌, Result, Ok, Err, refl, sym, ap, subst, ◌∙◌, inl, inr}
use Rattle.disk_model.specs.View.{DiskView}
use Rattle.history_store.specs.StoreValue.{StoreValue}
use Rattle.question_model.specs.Questions.{Question, Dates, Digest, Receipt, Added, ForIds, ForRows}
use Rattle.line_commands.specs.Commands.{Command, Ask, At, Import, Check, Pin, Unpin, Merge, Step, Publish, Abandon, Trim, Status}
use Rattle.line_server.specs.declared.held.Held.{Held}
use Rattle.line_server.specs.declared.held.Held.TheVariants as holds
use Rattle.line_server.specs.declared.refusal.LineRefusal.{LineRefusal}
use Rattle.line_server.specs.Sources.{Releases, source_view}
use Rattle.line_server.specs.ReplyValue.{Answer}
use Rattle.line_server.specs.StateValue.{HoldsBack, IsChange, reason_of}
use Rattle.line_server.specs.Replies.{Server, Replies, imports_seen}
use Rattle.line_server.specs.Turns.{Turn, IsTurn, Run, LeavesAsked, LeavesDisk}
use Rattle.line_server.specs.Laws.{WritesNothing, ReadingWritesNothing, ReadingHasNoChange}
use Rattle.line_server.proofs.HeldBack.{held_stays}
use Rattle.line_server.proofs.Damage.{met_by_line, not_nothing, refused_as_held}
use Rattle.line_server.proofs.Pinned.{asked_outcome}

-- no call but reads was made, and a crash leaves what it could have left before
abbrev Reads : {D : Type 0} → (D → DiskView) → D → D → Type 0
Reads view old new = ((view new).other_calls ≡ (view old).other_calls) × ((view old).is_honest → (view new).moments ≡ (view old).moments)

same_reads : {D : Type 0} (view : D → DiskView) (old new : D) → new ≡ old → Reads view old new
same_reads {D} view old new e = (ap (λ (d : D). (view d).other_calls) e, λ up. ap (λ (d : D). (view d).moments) e)

module _ {D : Type 0} (view : D → DiskView) (seen : ℕ) (outcome : Result Answer LineRefusal) (old new : StoreValue D) where
  asked_reads : (question : Question) → LeavesAsked view seen question outcome old new → Reads view old.disk new.disk
  asked_reads (ForIds ids) h = same_reads view old.disk new.disk h
  asked_reads (ForRows rows) h = (h.0.2, h.0.0)
  asked_reads Dates h = same_reads view old.disk new.disk h
  asked_reads (Receipt number) h = same_reads view old.disk new.disk h
  asked_reads (Added number kind after limit) h = (h.0.2, h.0.0)
  asked_reads Digest h = (h.0.2, h.0.0)

-- a command that is no change only reads
command_reads : {D : Type 0} (view : D → DiskView) (releases : Releases) (seen : ℕ) (command : Command) (outcome : Result Answer LineRefusal) (old new : StoreValue D) → (IsChange command → ⊥) → LeavesDisk view releases seen command outcome old new → Reads view old.disk new.disk
command_reads view releases seen (Ask question) outcome old new free h = asked_reads view seen outcome old new question h
command_reads view releases seen (At number question) outcome old new free h = asked_reads view number outcome old new question h
command_reads view releases seen (Pin number) outcome old new free h = same_reads view old.disk new.disk h
command_reads view releases seen Unpin outcome old new free h = same_reads view old.disk new.disk h
command_reads view releases seen Status outcome old new free h = same_reads view old.disk new.disk h
command_reads view releases seen command outcome old new free h = absurd (free tt)

-- a line of a server that only reads
line_reads : {D : Type 0} (view : D → DiskView) (has : Releases) (old new : Server D) (turn : Turn) → old.held ≡ holds.Changing → (t : IsTurn (source_view ⊥ has) view old turn new) → Replies (view old.store.disk).is_honest t.releases turn.line turn.outcome old new → Reads view old.store.disk new.store.disk
line_reads {D} view has old new turn is t (inl (session, command, asks, inl h)) = same_reads view old.store.disk new.store.disk (ap (λ (d : Server D). d.store.disk) h.unchanged)
line_reads {D} view has old new turn is t (inl (session, command, asks, inr (inl h))) = same_reads view old.store.disk new.store.disk (ap (λ (d : Server D). d.store.disk) h.unchanged)
line_reads view has old new turn is t (inl (session, command, asks, inr (inr h))) =
    command_reads view t.releases (imports_seen old session) command turn.outcome old.store new.store (λ change. h.free (subst (λ (k : Held). HoldsBack k command) (sym is) change)) (t.goes.disk session command asks)
line_reads {D} view has old new turn is t (inr r) = same_reads view old.store.disk new.store.disk (ap (λ (d : Server D). d.store.disk) r.3)

pub reading_writes_nothing : (D : Type 0) (view : D → DiskView) → ReadingWritesNothing D view
reading_writes_nothing D view has old new [] is run =
    let disk = ap (λ (d : Server D). d.store.disk) run in
    let reads = same_reads view old.store.disk new.store.disk disk in (
      record {
        other_calls = reads.0;
        moments = reads.1;
        honesty = subst (λ (d : D). (view old.store.disk).is_honest ↔ (view d).is_honest) (sym disk) (λ h. h, λ h. h);
      },
      ap (λ (d : Server D). d.held) run,
    )
reading_writes_nothing D view has old new (turn ∷ turns) is run =
    let one = line_reads view has old run.0 turn is run.1 run.1.goes.replies in
    let still : run.0.held ≡ old.held = met_by_line (view old.store.disk).is_honest run.1.releases turn.line turn.outcome old run.0 run.1.goes.replies ∙ held_stays turn.outcome old.held (λ none. changing (sym is ∙ none)) in
    let rest = reading_writes_nothing D view has run.0 new turns (still ∙ is) run.2 in (
      record {
        other_calls = rest.0.other_calls ∙ one.0;
        moments = λ up. rest.0.moments (run.1.call.honesty.0 up) ∙ one.1 up;
        honesty = (λ h. rest.0.honesty.0 (run.1.call.honesty.0 h), λ h. run.1.call.honesty.1 (rest.0.honesty.1 h));
      },
      rest.1 ∙ still,
    ) where
      changing : holds.Changing ≢ holds.Nothing
      changing = not_nothing holds.Changing refl

pub reading_has_no_change : (D : Type 0) (view : D → DiskView) → ReadingHasNoChange D view
reading_has_no_change D view has old new turn session command is t asks change =
    let out = refused_as_held (view old.store.disk).is_honest t.releases session command turn.outcome old new (subst (λ (k : Held). HoldsBack k command) (sym is) change)
    (asked_outcome (view old.store.disk).is_honest t.releases old new turn.line session command turn.outcome asks t.goes.replies) in
    (out.0 ∙ ap (λ (k : Held). Err (reason_of k)) is, out.1)
