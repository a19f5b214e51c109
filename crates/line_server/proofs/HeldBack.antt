-- Commands that are held back, and why these are refused.
use Rattle.std.proofs.Common.{◌≡◌, ◌≢◌, ℕ, List, refl, Result, Ok, Err}
use Rattle.rf2_values.specs.Row.{RowValue}
use Rattle.import_check.specs.declared.release.Release.{Release}
use Rattle.history_store.specs.declared.refusal.Refusal.TheVariants as store
use Rattle.history_store.specs.StoreValue.{StoreValue}
use Rattle.line_commands.specs.Commands.{Command, Ask, At, Import, Check, Merge, Step, Publish, Abandon, Trim}
use Rattle.line_server.specs.declared.held.Held.{Held}
use Rattle.line_server.specs.declared.held.Held.TheVariants as holds
use Rattle.line_server.specs.declared.refusal.LineRefusal.{LineRefusal}
use Rattle.line_server.specs.declared.refusal.LineRefusal.TheVariants as refusals
use Rattle.line_server.specs.ReplyValue.{Answer}
use Rattle.line_server.specs.StateValue.{HoldsBack, IsChange, reason_of, met_by, met_after}
use Rattle.line_server.specs.Replies.{LacksAny}
use Rattle.line_server.specs.Turns.{CountsOutcome, IfRefused, IsComparedWith}

-- whatever is held back is a change, or says what one would be answered
pub change_of : (held : Held) (command : Command) → HoldsBack held command → IsChange command
change_of holds.Nothing command h = absurd h
change_of holds.Confirming (Import name) h = tt
change_of holds.Confirming (Check name) h = tt
change_of holds.Confirming Merge h = tt
change_of holds.Confirming (Step rows) h = tt
change_of holds.Confirming Publish h = tt
change_of holds.Confirming command h = absurd h
change_of holds.Changing command h = h

-- a store lacks nothing for what is held back
pub not_both : {D : Type 0} (command : Command) (s : StoreValue D) → IsChange command → LacksAny command s → ⊥
not_both (Ask question) s held later = held
not_both (At number question) s held later = held
not_both command s held lacks = absurd lacks.1

-- a check is held back where an import is, and the other way round
pub as_import : (held : Held) (name other : List ℕ) → HoldsBack held (Check name) → HoldsBack held (Import other)
as_import holds.Nothing name other h = h
as_import holds.Confirming name other h = tt
as_import holds.Changing name other h = tt

pub as_check : (held : Held) (name other : List ℕ) → HoldsBack held (Import name) → HoldsBack held (Check other)
as_check holds.Nothing name other h = h
as_check holds.Confirming name other h = tt
as_check holds.Changing name other h = tt

-- ---- the reason

-- it leaves what is held back
pub reason_stays : (held : Held) (command : Command) → HoldsBack held command → met_by (reason_of held) held ≡ held
reason_stays holds.Nothing command h = absurd h
reason_stays holds.Confirming command h = refl
reason_stays holds.Changing command h = refl

-- it isn't a fault of the disk
pub reason_kept : (held : Held) (so : Type 0) → so → IfRefused (Err (reason_of held)) so
reason_kept holds.Nothing so h = h
reason_kept holds.Confirming so h = h
reason_kept holds.Changing so h = h

pub reason_counts : (held : Held) (count : ℕ) → CountsOutcome (Err (reason_of held)) count count
reason_counts holds.Nothing count = refl
reason_counts holds.Confirming count = refl
reason_counts holds.Changing count = refl

-- it says nothing of a row
pub reason_compares : (held : Held) (known : List RowValue) (may_be : RowValue → Type 0) (release : Release) → IsComparedWith known may_be release (Err (reason_of held))
reason_compares holds.Nothing known may_be release = tt
reason_compares holds.Confirming known may_be release = tt
reason_compares holds.Changing known may_be release = tt

-- what is held back already stays so
pub held_stays : (outcome : Result Answer LineRefusal) (held : Held) → held ≢ holds.Nothing → met_after outcome held ≡ held
held_stays (Ok x) held some = refl
held_stays (Err (refusals.Store store.Damaged)) holds.Nothing some = absurd (some refl)
held_stays (Err (refusals.Store store.Damaged)) holds.Confirming some = refl
held_stays (Err (refusals.Store store.Damaged)) holds.Changing some = refl
held_stays (Err (refusals.Store _)) held some = refl
held_stays (Err (refusals.Unread reason)) held some = refl
held_stays (Err refusals.PinRange) held some = refl
held_stays (Err refusals.NoFolder) held some = refl
