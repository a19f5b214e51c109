-- Laws of every run of lines, on an honest disk.
use Rattle.std.specs.Prelude.{◌≡◌, ◌≢◌, ◌↔◌, ℕ, false, ◌≤◌, List, [], map, Option, Some, None}
use Rattle.std.specs.Prelude.{Result, Ok, Err, slice_index_or}
use Rattle.disk_model.specs.View.{DiskView}
use Rattle.std.specs.List.{AllByRecursion}
use Rattle.history_model.specs.History.{rows_at}
use Rattle.history_model.specs.Brought.{ImportReceiptOf}
use Rattle.import_check.specs.declared.scope.Scope.TheVariants as scopes
use Rattle.import_check.specs.declared.release.Release.{Release}
use Rattle.import_check.specs.Release.{files_of}
use Rattle.directory.specs.declared.entry.Entry.{Entry}
use Rattle.directory.specs.declared.sums.Sums.TheVariants as sums
use Rattle.history_store.specs.declared.refusal.Refusal.TheVariants as store
use Rattle.history_store.specs.Catalog.{Catalog}
use Rattle.history_store.specs.Prepared.{HasMembers}
use Rattle.history_store.specs.StoreValue.{IsAcknowledged}
use Rattle.question_model.specs.Questions.{Question, Receipt as AskReceipt}
use Rattle.line_commands.specs.Commands.{Command, Ask, Import, Check}
use Rattle.line_commands.specs.Requests.{Asks}
use Rattle.line_server.specs.declared.refusal.LineRefusal.{LineRefusal}
use Rattle.line_server.specs.declared.refusal.LineRefusal.TheVariants as refusals
use Rattle.line_server.specs.Sources.{Releases, SourceView, source_view}
use Rattle.line_server.specs.ReplyValue.{Answer, Done}
use Rattle.line_commands.specs.declared.unread.Unread.TheVariants as unread
use Rattle.line_server.specs.declared.held.Held.TheVariants as holds
use Rattle.line_server.specs.StateValue.{IsHeldBack, IsChange}
use Rattle.line_server.specs.Replies.{Server, Replies, IsFound, IsAskedOf, Lacks, LacksAny}
use Rattle.line_server.specs.Replies.{receipt_of}
use Rattle.store_life.specs.Life.{Imported, taken, Called, IsLife}
use Rattle.store_life.specs.Laws.{AgreeUpTo, BroughtAlike}
use Rattle.line_server.specs.Turns.{Turn, IsTurn, Run}
use Rattle.line_server.specs.Pinning.{IsPinnedTo, LeavesPin, StaysPinned}

-- the outcome says neither that memory ran out nor that the disk failed
abbrev pub IsSure : Result Answer LineRefusal → Type 0
IsSure (Err (refusals.Store store.OutOfMemory)) = ⊥
IsSure (Err (refusals.Store store.DiskFault)) = ⊥
IsSure _ = Unit {0}

-- A question is answered alike in two states in which it is asked about the same number of imports,
-- the histories agree up to it, and neither store lacks what it needs. So a question after AT is
-- answered as in a session that is pinned to these imports.
abbrev pub PinnedIsUndisturbed : (D : Type 0) → (D → DiskView) → Type 0
PinnedIsUndisturbed D view = (releases others : Releases) (a b after next : Server D)
    (line text : List ℕ) (session other pin : ℕ) (command also : Command) (question : Question)
    (query : Answer) (one two : Result Answer LineRefusal)
    → (view a.store.disk).is_honest → (view b.store.disk).is_honest → a.store.needs_reopen ≡ false
    → b.store.needs_reopen ≡ false
    → Asks line session command → Asks text other also
    → IsAskedOf a session command question pin → IsAskedOf b other also question pin
    → (LacksAny command a.store → ⊥) → (LacksAny also b.store → ⊥)
    → IsFound question (rows_at pin a.store.history.rows) query
    → AgreeUpTo pin a.store.history b.store.history
    → Replies (view a.store.disk).is_honest releases line one a after
    → Replies (view b.store.disk).is_honest others text two b next
    → IsSure one → IsSure two → one ≡ two

-- A RECEIPT is answered alike in two states in which it is asked about the same number of imports,
-- and the import brought the same rows.
abbrev pub PinnedReceiptIsUndisturbed : (D : Type 0) → (D → DiskView) → Type 0
PinnedReceiptIsUndisturbed D view = (releases others : Releases) (a b after next : Server D)
    (line text : List ℕ) (session other pin number : ℕ) (command also : Command)
    (one two : Result Answer LineRefusal)
    → a.store.needs_reopen ≡ b.store.needs_reopen
    → Asks line session command → Asks text other also
    → IsAskedOf a session command (AskReceipt number) pin
    → IsAskedOf b other also (AskReceipt number) pin
    → BroughtAlike number a.store.history b.store.history
    → Replies (view a.store.disk).is_honest releases line one a after
    → Replies (view b.store.disk).is_honest others text two b next → one ≡ two

-- answered lines are calls on the store, one after the other
abbrev pub LinesAreCalls : {D : Type 0} → SourceView → (D → DiskView) → Type 0
LinesAreCalls {D} source view = (old new : Server D) (turns : List Turn)
    → Run source view old turns new
    → IsLife view old.store (map (λ turn. Called turn.call) turns) new.store

-- the segment without its checksums
abbrev pub entry_without_sums : Entry → Entry
entry_without_sums entry = record entry { sums = sums.Nowhere }

-- the catalog without the checksums of its segments
abbrev pub without_sums : Catalog → Catalog
without_sums catalog =
    record catalog { entries = map entry_without_sums catalog.entries }

-- The servers are equal, except perhaps for the disks of their stores and the checksums of
-- segments: a merge computes one of the rows that it wrote, which aren't in a catalog.
pub record AreAlike {D : Type 0} (a b : Server D) : Type 0 where
  pub pins : b.pins ≡ a.pins
  pub history : b.store.history ≡ a.store.history
  pub catalog : without_sums b.store.catalog ≡ without_sums a.store.catalog
  pub needs_reopen : b.store.needs_reopen ≡ a.store.needs_reopen
  pub held : b.held ≡ a.held

-- A line has one reply in states that are equal in this sense, and leaves states that are so too,
-- if both stores keep words or neither does.
abbrev pub OneReply : (D : Type 0) → (D → DiskView) → Type 0
OneReply D view = (releases : Releases) (line : List ℕ) (one two : Result Answer LineRefusal)
    (a b after next : Server D)
    → (view a.store.disk).is_honest → (view b.store.disk).is_honest → AreAlike a b
    → b.store.words ≡ a.store.words
    → Replies (view a.store.disk).is_honest releases line one a after
    → Replies (view b.store.disk).is_honest releases line two b next → IsSure one → IsSure two
    → (one ≡ two) × AreAlike after next

-- Once a line was answered 8 by a server that doesn't only read, each later one that would import,
-- check, merge or publish is answered 8 too and changes nothing, whatever the disk does and whatever
-- releases the source has.
abbrev pub DamageHoldsBack : (D : Type 0) → (D → DiskView) → Type 0
DamageHoldsBack D view =
    (has : Releases) (before mid late after : Server D) (first turn : Turn) (turns : List Turn)
    (session : ℕ) (command : Command)
    → before.held ≢ holds.Changing
    → IsTurn (source_view ⊥ has) view before first mid
    → first.outcome ≡ Err (refusals.Store store.Damaged)
    → Run (source_view ⊥ has) view mid turns late
    → IsTurn (source_view ⊥ has) view late turn after
    → Asks turn.line session command → IsHeldBack command
    → (turn.outcome ≡ Err (refusals.Store store.Damaged)) × (after ≡ late)

-- on an honest disk no damage is found, and so what is held back stays the same
abbrev pub HonestMeetsNoDamage : (D : Type 0) → (D → DiskView) → Type 0
HonestMeetsNoDamage D view = (has : Releases) (old new : Server D) (turns : List Turn)
    → (view old.store.disk).is_honest
    → Run (source_view ⊥ has) view old turns new → new.held ≡ old.held

-- Only reads were made on the disk, on every disk: no other call was counted, and what crashes may
-- leave of an honest one is unchanged.
pub record WritesNothing {D : Type 0} (view : D → DiskView) (old new : D) : Type 0 where
  pub other_calls : (view new).other_calls ≡ (view old).other_calls
  pub moments : (view old).is_honest → (view new).moments ≡ (view old).moments
  pub honesty : (view old).is_honest ↔ (view new).is_honest

-- A server that only reads writes nothing, on any disk, whatever lines it is sent.
abbrev pub ReadingWritesNothing : (D : Type 0) → (D → DiskView) → Type 0
ReadingWritesNothing D view = (has : Releases) (old new : Server D) (turns : List Turn)
    → old.held ≡ holds.Changing → Run (source_view ⊥ has) view old turns new
    → WritesNothing view old.store.disk new.store.disk × (new.held ≡ old.held)

-- a server that only reads has none of the commands that may change the store
abbrev pub ReadingHasNoChange : (D : Type 0) → (D → DiskView) → Type 0
ReadingHasNoChange D view =
    (has : Releases) (old new : Server D) (turn : Turn) (session : ℕ) (command : Command)
    → old.held ≡ holds.Changing → IsTurn (source_view ⊥ has) view old turn new
    → Asks turn.line session command → IsChange command
    → (turn.outcome ≡ Err (refusals.Unread unread.Command)) × (new ≡ old)

-- An IMPORT gets the reply that a CHECK of the same name just got, on an honest disk and if the
-- source still has the same releases.
abbrev pub CheckForetells : (D : Type 0) → (D → DiskView) → Type 0
CheckForetells D view = (releases : Releases) (line text : List ℕ) (session other : ℕ)
    (name : List ℕ) (one two : Result Answer LineRefusal) (old checked new : Server D)
    → (view old.store.disk).is_honest → (view checked.store.disk).is_honest
    → Asks line session (Check name) → Asks text other (Import name)
    → Replies (view old.store.disk).is_honest releases line one old checked
    → Replies (view checked.store.disk).is_honest releases text two checked new
    → IsSure one → IsSure two → two ≡ one

-- no release has members of reference sets when the basic files are asked for
abbrev pub GivesNoMembers : Releases → Type 0
GivesNoMembers releases = (name : List ℕ) (release : Release)
    → releases scopes.Basic name ≡ Some (files_of release) → HasMembers release → ⊥

-- With such releases exactly those lines are answered 14 that ask a question which needs members,
-- of a store that keeps none, whatever the disk does.
abbrev pub OnlyMembersNeedLater : (D : Type 0) → (D → DiskView) → Type 0
OnlyMembersNeedLater D view =
    (releases : Releases) (line : List ℕ) (outcome : Result Answer LineRefusal) (old new : Server D)
    → GivesNoMembers releases
    → Replies (view old.store.disk).is_honest releases line outcome old new
    → (outcome ≡ Err (refusals.Store store.LaterVersion)) ↔ ((session : ℕ) × (command : Command)
    × Asks line session command × Lacks command old.store store.LaterVersion)

-- Exactly those lines are answered 16 that ask for words, of a store that leaves them out, whatever
-- the disk does.
abbrev pub OnlyWordsAreNotKept : (D : Type 0) → (D → DiskView) → Type 0
OnlyWordsAreNotKept D view =
    (releases : Releases) (line : List ℕ) (outcome : Result Answer LineRefusal) (old new : Server D)
    → Replies (view old.store.disk).is_honest releases line outcome old new
    → (outcome ≡ Err (refusals.Store store.NotKept)) ↔ ((session : ℕ) × (command : Command)
    × Asks line session command × Lacks command old.store store.NotKept)

-- an import that was answered OK is the one that its turn records
abbrev pub OkIsImported : (D : Type 0) → (D → DiskView) → Type 0
OkIsImported D view =
    (has : Releases) (old new : Server D) (turn : Turn) (session : ℕ) (name : List ℕ)
    (answer : Answer)
    → (view old.store.disk).is_honest → Asks turn.line session (Import name)
    → turn.outcome ≡ Ok answer
    → IsTurn (source_view ⊥ has) view old turn new
    → (release : Release) × (turn.call ≡ Imported release)

-- a line that was refused imported nothing
abbrev pub RefusedIsNotImported : (D : Type 0) → (D → DiskView) → Type 0
RefusedIsNotImported D view =
    (has : Releases) (old new : Server D) (turn : Turn) (refusal : LineRefusal)
    → (view old.store.disk).is_honest → turn.outcome ≡ Err refusal
    → IsTurn (source_view ⊥ has) view old turn new → taken turn.call ≡ []

-- a release that a turn imported is one that its line asked to import, and the line was answered OK
abbrev pub ImportedIsOk : (D : Type 0) → (D → DiskView) → Type 0
ImportedIsOk D view =
    (has : Releases) (old new : Server D) (turn : Turn) (release : Release)
    → (view old.store.disk).is_honest → turn.call ≡ Imported release
    → IsTurn (source_view ⊥ has) view old turn new
    → (session : ℕ) × (name : List ℕ) × (answer : Answer) × Asks turn.line session (Import name)
    × (turn.outcome ≡ Ok answer)

-- whatever holds of a run if its source is honest also holds without knowing anything about the
-- source
abbrev pub RunNeedsNoSource : {D : Type 0} → SourceView → (D → DiskView) → Type 0
RunNeedsNoSource {D} source view =
    (has : Releases) (old new : Server D) (turns : List Turn)
    → Run source view old turns new
    → Run (source_view ⊥ has) view old turns new

-- A session stays pinned while lines are answered that neither pin it nor unpin it, and the history
-- is unchanged up to the pin: the rows that the pin shows, and which of these each import brought.
abbrev pub RunKeepsPin : (D : Type 0) → (D → DiskView) → Type 0
RunKeepsPin D view =
    (has : Releases) (old new : Server D) (turns : List Turn) (session pin : ℕ)
    → (view old.store.disk).is_honest → IsAcknowledged view old.store
    → IsPinnedTo old session pin
    → Run (source_view ⊥ has) view old turns new → AllByRecursion (LeavesPin session) turns
    → (slice_index_or new.pins session None ≡ Some pin)
    × AgreeUpTo pin new.store.history old.store.history
    × ((number : ℕ) → number ≤ pin → BroughtAlike number new.store.history old.store.history)

-- As long as a session stays pinned, each of its questions for which the store lacks nothing is
-- answered from what the pin showed in the beginning.
abbrev pub PinnedSeesItsImports : (D : Type 0) → (D → DiskView) → Type 0
PinnedSeesItsImports D view =
    (has : Releases) (session pin : ℕ) (start : Server D) (turns : List Turn) (turn : Turn)
    (question : Question) (query : Answer)
    → (stays : StaysPinned has view session pin start turns turn)
    → Asks turn.line session (Ask question) → (LacksAny (Ask question) stays.mid.store → ⊥)
    → IsFound question (rows_at pin start.store.history.rows) query
    → IsSure turn.outcome → turn.outcome ≡ Ok query

-- As long as a session stays pinned, a RECEIPT of an import that the pin shows is answered by what
-- the import had brought in the beginning.
abbrev pub PinnedSeesItsReceipts : (D : Type 0) → (D → DiskView) → Type 0
PinnedSeesItsReceipts D view =
    (has : Releases) (session pin number brought : ℕ) (latest : Option ℕ)
    (start : Server D) (turns : List Turn) (turn : Turn)
    → StaysPinned has view session pin start turns turn
    → Asks turn.line session (Ask (AskReceipt number)) → number ≤ pin
    → ImportReceiptOf start.store.history number brought latest
    → turn.outcome ≡ Ok (Done (receipt_of number brought latest))

-- In any two runs from histories that agree up to its pin, a session gets the same answers,
-- whatever the other sessions do, unless the store lacks what a question needs.
abbrev pub PinnedRunsAreUndisturbed : (D : Type 0) → (D → DiskView)
    → Type 0
PinnedRunsAreUndisturbed D view =
    (has others : Releases) (session pin : ℕ) (a b : Server D) (before also : List Turn)
    (one two : Turn) (question : Question) (query : Answer)
    → (first : StaysPinned has view session pin a before one)
    → (second : StaysPinned others view session pin b also two)
    → AgreeUpTo pin a.store.history b.store.history
    → one.line ≡ two.line → Asks one.line session (Ask question)
    → (LacksAny (Ask question) first.mid.store → ⊥)
    → (LacksAny (Ask question) second.mid.store → ⊥)
    → IsFound question (rows_at pin a.store.history.rows) query
    → IsSure one.outcome → IsSure two.outcome → one.outcome ≡ two.outcome

-- In any two runs a RECEIPT of a pinned session gets the same answer, if the import brought the
-- same rows to both histories.
abbrev pub PinnedReceiptsAreUndisturbed : (D : Type 0) → (D → DiskView)
    → Type 0
PinnedReceiptsAreUndisturbed D view =
    (has others : Releases) (session pin number : ℕ) (a b : Server D) (before also : List Turn)
    (one two : Turn)
    → StaysPinned has view session pin a before one
    → StaysPinned others view session pin b also two
    → BroughtAlike number a.store.history b.store.history
    → one.line ≡ two.line → Asks one.line session (Ask (AskReceipt number))
    → one.outcome ≡ two.outcome
