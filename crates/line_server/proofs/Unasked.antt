-- Lines that ask the source for no release.
use Rattle.std.proofs.Common.{◌≡◌, ℕ, ◌<◌, List, [], ◌∷◌, ◌++◌, length, sym, ap, subst, ◌∙◌, arith}
use Rattle.disk_model.specs.View.{DiskView}
use Rattle.bstr.specs.Text.{no_cr}
use Rattle.line_server.specs.Sources.{SourceView}
use Rattle.line_server.specs.declared.held.Held.{Held}
use Rattle.line_server.specs.StateValue.{met_after}
use Rattle.line_server.specs.Replies.{Server, AsksNoRelease}
use Rattle.line_server.specs.Turns.{Turn, Run, AskNoRelease}
use Rattle.line_server.specs.Steps.{kept}
use Rattle.line_server.proofs.Cuts.{kept_ended, kept_unended}
use Rattle.line_server.proofs.Damage.{met_by_line}

-- ---- one line

-- a line that is too long asks for nothing
long_asks_none : (line : List ℕ) (met : Held) → 4096 < length line → AsksNoRelease line met
long_asks_none line met long session command name asks named = absurd (let short = asks.short in omega (arith, short, long))

-- what holds if a line asks for no release, with the line under another name
pub unasked_on : {Q : Type 0} (x y : List ℕ) (met : Held) → x ≡ y → (AsksNoRelease x met → Q) → AsksNoRelease y met → Q
unasked_on x y met e h none = h (subst (λ (l : List ℕ). AsksNoRelease l met) (sym e) none)

-- the line as it was kept asks for none if the line doesn't
pub ended_asks_none : (part buffer : List ℕ) (met : Held) → buffer ≡ kept part → AsksNoRelease (no_cr part) met → AsksNoRelease (no_cr buffer) met
ended_asks_none part buffer met e none =
    kept_ended (λ (l : List ℕ). AsksNoRelease l met → AsksNoRelease (no_cr buffer) met) (λ x y long other g here. g (long_asks_none x met long)) part
    (λ here. subst (λ (l : List ℕ). AsksNoRelease (no_cr l) met) (sym e) here) none

pub unended_asks_none : (part buffer : List ℕ) (met : Held) → buffer ≡ kept part → AsksNoRelease part met → AsksNoRelease buffer met
unended_asks_none part buffer met e none =
    kept_unended (λ (l : List ℕ). AsksNoRelease l met → AsksNoRelease buffer met) (λ x y long other g here. g (long_asks_none x met long)) part
    (λ here. subst (λ (l : List ℕ). AsksNoRelease l met) (sym e) here) none

-- ---- many lines

-- what is held back after these turns
abbrev met_from : Held → List Turn → Held
met_from met [] = met
met_from met (turn ∷ turns) = met_from (met_after turn.outcome met) turns

run_met_from : {D : Type 0} (source : SourceView) (view : D → DiskView) (turns : List Turn) (old new : Server D) → Run source view old turns new → new.held ≡ met_from old.held turns
run_met_from {D} source view [] old new run = ap (λ (d : Server D). d.held) run
run_met_from source view (turn ∷ turns) old new run =
    run_met_from source view turns run.0 new run.2
    ∙ ap (λ (met : Held). met_from met turns) (met_by_line (view old.store.disk).is_honest run.1.releases turn.line turn.outcome old run.0 run.1.goes.replies)

pub first_ask_none : (met : Held) (turns more : List Turn) → AskNoRelease met (turns ++ more) → AskNoRelease met turns
first_ask_none met [] more none = tt
first_ask_none met (turn ∷ turns) more none = (none.0, first_ask_none (met_after turn.outcome met) turns more none.1)

behind_ask_none : (met : Held) (turns more : List Turn) → AskNoRelease met (turns ++ more) → AskNoRelease (met_from met turns) more
behind_ask_none met [] more none = none
behind_ask_none met (turn ∷ turns) more none = behind_ask_none (met_after turn.outcome met) turns more none.1

-- the lines behind a run ask for none
pub rest_ask_none : {D : Type 0} (source : SourceView) (view : D → DiskView) (turns more : List Turn) (old now : Server D) → Run source view old turns now → AskNoRelease old.held (turns ++ more) → AskNoRelease now.held more
rest_ask_none source view turns more old now run none =
    subst (λ (met : Held). AskNoRelease met more) (sym (run_met_from source view turns old now run)) (behind_ask_none old.held turns more none)
