-- What is held back once damage was met, and that on an honest disk none is.
use Rattle.std.proofs.Common.{◌≡◌, ◌≢◌, ◌⊎◌, ℕ, Bool, true, false, List, [], ◌∷◌, Result, Ok, Err, refl, sym, ap, subst, ◌∙◌, inl, inr}
use Rattle.std.proofs.lemmas.Bool.{false≢true}
use Rattle.disk_model.specs.View.{DiskView}
use Rattle.history_store.specs.declared.refusal.Refusal.{Refusal}
use Rattle.history_store.specs.declared.refusal.Refusal.TheVariants as store
use Rattle.history_store.specs.StoreValue.{StoreValue}
use Rattle.question_model.specs.Questions.{Question, Dates, Receipt, Added, ForIds}
use Rattle.line_commands.specs.Commands.{Command, Ask, At, Import, Check, Pin, Unpin, Merge, Step, Publish, Abandon, Trim, Status}
use Rattle.line_server.specs.declared.refusal.LineRefusal.{LineRefusal}
use Rattle.line_server.specs.declared.refusal.LineRefusal.TheVariants as refusals
use Rattle.line_server.specs.Sources.{Releases, source_view}
use Rattle.line_server.specs.ReplyValue.{Answer}
use Rattle.line_server.specs.declared.held.Held.{Held}
use Rattle.line_server.specs.declared.held.Held.TheVariants as holds
use Rattle.line_server.specs.StateValue.{HoldsBack, reason_of, met_by, met_after}
use Rattle.line_server.specs.Replies.{Server, Replies, Lacks, LacksFor, IsOutcome, IsStoreRefusal, IsRefusalAt, IsClosed, IsLacking, imports_seen}
use Rattle.line_server.specs.Turns.{Turn, Run}
use Rattle.line_server.specs.Laws.{DamageHoldsBack, HonestMeetsNoDamage}
use Rattle.line_server.proofs.HeldBack.{change_of, not_both, reason_stays, held_stays}
use Rattle.line_server.proofs.Pinned.{Settles, asked_outcome}

abbrev is_damage : Refusal → Bool
is_damage store.Damaged = true
is_damage _ = false

-- ---- what is held back

-- what a store lacks is no damage
lack_for_holds : {D : Type 0} (question : Question) (s : StoreValue D) (held : Held) (lack : Refusal) → LacksFor question s lack → met_by (refusals.Store lack) held ≡ held
lack_for_holds question s held store.Damaged lacks = absurd lacks
lack_for_holds question s held lack lacks = refl

lack_holds : {D : Type 0} (command : Command) (s : StoreValue D) (held : Held) (lack : Refusal) → Lacks command s lack → met_by (refusals.Store lack) held ≡ held
lack_holds (Ask question) s held lack lacks = lack_for_holds question s held lack lacks
lack_holds (At number question) s held lack lacks = lack_for_holds question s held lack lacks.1
lack_holds command s held lack lacks = absurd lacks

-- by the outcome of a line it is known what is held back after it
pub met_by_line : {D : Type 0} (honest : Type 0) (releases : Releases) (line : List ℕ) (outcome : Result Answer LineRefusal) (old new : Server D) → Replies honest releases line outcome old new → new.held ≡ met_after outcome old.held
met_by_line {D} honest releases line outcome old new (inl (session, command, asks, inl h)) =
    ap (λ (d : Server D). d.held) h.unchanged ∙ sym (ap (λ (o : Result Answer LineRefusal). met_after o old.held) h.refused ∙ reason_stays old.held command h.held_back)
met_by_line {D} honest releases line outcome old new (inl (session, command, asks, inr (inl h))) =
    ap (λ (d : Server D). d.held) h.unchanged ∙ sym (ap (λ (o : Result Answer LineRefusal). met_after o old.held) h.refused ∙ lack_holds command old.store old.held h.lack h.lacks)
met_by_line honest releases line outcome old new (inl (session, command, asks, inr (inr h))) = h.damage
met_by_line {D} honest releases line outcome old new (inr r) =
    ap (λ (d : Server D). d.held) r.3 ∙ sym (ap (λ (o : Result Answer LineRefusal). met_after o old.held) r.2)

-- damage is noted, unless the server only reads
noted_by : (held : Held) → held ≢ holds.Changing → met_by (refusals.Store store.Damaged) held ≡ holds.Confirming
noted_by holds.Nothing free = refl
noted_by holds.Confirming free = refl
noted_by holds.Changing free = absurd (free refl)

abbrev pub holds_nothing : Held → Bool
holds_nothing holds.Nothing = true
holds_nothing held = false

pub not_nothing : (held : Held) → holds_nothing held ≡ false → held ≢ holds.Nothing
not_nothing held some none = false≢true (sym some ∙ ap holds_nothing none)

-- what is held back stays so
pub run_held : (D : Type 0) (view : D → DiskView) (has : Releases) (turns : List Turn) (old new : Server D) → Run (source_view ⊥ has) view old turns new → old.held ≢ holds.Nothing → new.held ≡ old.held
run_held D view has [] old new run some = ap (λ (d : Server D). d.held) run
run_held D view has (turn ∷ turns) old new run some =
    let one : run.0.held ≡ old.held = met_by_line (view old.store.disk).is_honest run.1.releases turn.line turn.outcome old run.0 run.1.goes.replies ∙ held_stays turn.outcome old.held some in
    run_held D view has turns run.0 new run.2 (λ none. some (sym one ∙ none)) ∙ one

-- a command that is held back is refused for that reason
pub refused_as_held : {D : Type 0} (honest : Type 0) (releases : Releases) (session : ℕ) (command : Command) (outcome : Result Answer LineRefusal) (old new : Server D) → HoldsBack old.held command → Settles honest releases session command outcome old new
    → (outcome ≡ Err (reason_of old.held)) × (new ≡ old)
refused_as_held honest releases session command outcome old new is (inl h) = (h.refused, h.unchanged)
refused_as_held honest releases session command outcome old new is (inr (inl h)) = absurd (not_both command old.store (change_of old.held command is) (h.lack, h.lacks))
refused_as_held honest releases session command outcome old new is (inr (inr h)) = absurd (h.free is)

pub damage_holds_back : (D : Type 0) (view : D → DiskView) → DamageHoldsBack D view
damage_holds_back D view has before mid late after first turn turns session command free t refused run last asks is =
    let honest = (view before.store.disk).is_honest in
    let met : mid.held ≡ holds.Confirming = met_by_line honest t.releases first.line first.outcome before mid t.goes.replies ∙ ap (λ (o : Result Answer LineRefusal). met_after o before.held) refused ∙ noted_by before.held free in
    let still : late.held ≡ holds.Confirming = run_held D view has turns mid late run (not_nothing mid.held (ap holds_nothing met)) ∙ met in
    let out = refused_as_held (view late.store.disk).is_honest last.releases session command turn.outcome late after (subst (λ (k : Held). HoldsBack k command) (sym still) is)
    (asked_outcome (view late.store.disk).is_honest last.releases late after turn.line session command turn.outcome asks last.goes.replies) in
    (out.0 ∙ ap (λ (k : Held). Err (reason_of k)) still, out.1)

-- ---- an honest disk

module _ {D : Type 0} (honest : Type 0) (up : honest) (releases : Releases) (old new : Server D) where
  closed_undamaged : IsClosed store.Damaged old new → ⊥
  closed_undamaged c = false≢true (sym (ap is_damage c.0))

  listed_undamaged : IsClosed store.Damaged old new ⊎ IsLacking store.Damaged old new → ⊥
  listed_undamaged (inl c) = closed_undamaged c
  listed_undamaged (inr l) = false≢true (sym (ap is_damage l.0))

  asked_undamaged : (seen : ℕ) (question : Question) → IsRefusalAt honest seen question store.Damaged old new → ⊥
  asked_undamaged seen (Receipt number) r = closed_undamaged r.1
  asked_undamaged seen (Added number kind after limit) r = r.1.undamaged up refl
  asked_undamaged seen (ForIds ids) r = listed_undamaged r
  asked_undamaged seen Dates r = listed_undamaged r
  asked_undamaged seen question r = r.undamaged up refl

  undamaged : (session : ℕ) (command : Command) → IsStoreRefusal honest releases session command store.Damaged old new → ⊥
  undamaged session (Ask question) r = asked_undamaged (imports_seen old session) question r
  undamaged session (At number question) r = asked_undamaged number question r.1
  undamaged session (Import name) r = (r.imported up).0.1
  undamaged session (Check name) r = (r.checked up).0.1
  undamaged session (Pin number) r = r
  undamaged session Unpin r = r
  undamaged session Merge r = r.0.0.1.1
  undamaged session (Step rows) r = r.1 up refl
  undamaged session Publish r = r.0.0.1
  undamaged session Abandon r = r.0.0.1
  undamaged session Trim r = r.0.0
  undamaged session Status r = closed_undamaged r

  pub outcome_undamaged : (session : ℕ) (command : Command) (outcome : Result Answer LineRefusal) → IsOutcome honest releases session command outcome old new → met_after outcome old.held ≡ old.held
  outcome_undamaged session command (Ok x) out = refl
  outcome_undamaged session command (Err (refusals.Store store.Damaged)) out = absurd (undamaged session command out)
  outcome_undamaged session command (Err (refusals.Store _)) out = refl
  outcome_undamaged session command (Err (refusals.Unread reason)) out = refl
  outcome_undamaged session command (Err refusals.PinRange) out = refl
  outcome_undamaged session command (Err refusals.NoFolder) out = refl

  line_undamaged : (line : List ℕ) (outcome : Result Answer LineRefusal) → Replies honest releases line outcome old new → new.held ≡ old.held
  line_undamaged line outcome (inl (session, command, asks, inl h)) = ap (λ (d : Server D). d.held) h.unchanged
  line_undamaged line outcome (inl (session, command, asks, inr (inl h))) = ap (λ (d : Server D). d.held) h.unchanged
  line_undamaged line outcome (inl (session, command, asks, inr (inr h))) = h.damage ∙ outcome_undamaged session command outcome h.comes_out
  line_undamaged line outcome (inr r) = ap (λ (d : Server D). d.held) r.3

pub honest_meets_no_damage : (D : Type 0) (view : D → DiskView) → HonestMeetsNoDamage D view
honest_meets_no_damage D view has old new [] up run = ap (λ (d : Server D). d.held) run
honest_meets_no_damage D view has old new (turn ∷ turns) up run =
    honest_meets_no_damage D view has run.0 new turns (run.1.call.honesty.0 up) run.2
    ∙ line_undamaged (view old.store.disk).is_honest up run.1.releases old run.0 turn.line turn.outcome run.1.goes.replies
