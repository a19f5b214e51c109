-- Which answer a line gets, and the server after it.
use Rattle.std.specs.Prelude.{◌≡◌, ◌≢◌, ℕ, ◌≤◌, ◌<◌, ◌⊎◌, Bool, true, false, List, [], ◌∷◌, length}
use Rattle.std.specs.Prelude.{map, codes}
use Rattle.std.specs.Prelude.{decimal, slice_set, option_map, Option, Some, None, Result, Ok, Err}
use Rattle.rf2_values.specs.declared.row.Kind.TheVariants as kinds
use Rattle.rf2_values.specs.Row.{RowValue}
use Rattle.rf2_values.specs.Key.{key_of}
use Rattle.history_model.specs.declared.receipt.Receipt.{Receipt}
use Rattle.history_model.specs.InOrder.{Has}
use Rattle.history_model.specs.History.{rows_at}
use Rattle.history_model.specs.Brought.{ImportReceiptOf}
use Rattle.history_model.specs.Exports.{rows_added}
use Rattle.history_model.specs.Queries.{dates}
use Rattle.import_check.specs.declared.scope.Scope.TheVariants as scopes
use Rattle.import_check.specs.declared.release.Release.{Release}
use Rattle.import_check.specs.Release.{files_of}
use Rattle.history_store.specs.declared.refusal.Refusal.{Refusal}
use Rattle.history_store.specs.declared.refusal.Refusal.TheVariants as store
use Rattle.history_store.specs.Catalog.{Merge as CatalogMerge}
use Rattle.history_store.specs.StoreValue.{StoreValue}
use Rattle.store_digest.specs.Digest.{digest_of, IsDigestByKey}
use Rattle.history_store.specs.Answers.{AnyRow, IsImportOf, IsImportOnAnyDisk, IsReadRefusal}
use Rattle.history_store.specs.Answers.{IsRefused}
use Rattle.history_store.specs.Queries.{IsWithoutRead}
use Rattle.history_store.specs.Checking.{IsCheckingOf, IsCheckingOnAnyDisk}
use Rattle.history_store.specs.MergeAnswers.{IsBeginningOf, IsSteppingOf, IsPublishingOf}
use Rattle.history_store.specs.MergeAnswers.{IsAbandoningOf, IsTrimmingOf}
use Rattle.history_store.specs.Prepared.{scope_of}
use Rattle.line_commands.specs.declared.unread.Unread.{Unread}
use Rattle.question_model.specs.Questions.{AllRows}
use Rattle.question_model.specs.Questions.{Question, ForRows, ForIds, Dates as AskDates, Digest}
use Rattle.question_model.specs.Questions.{Receipt as AskReceipt, Added}
use Rattle.question_model.specs.Wanted.{rows_for, kinds_for, AreIdsFor}
use Rattle.index_answers.specs.Keys.{SameKeysFor}
use Rattle.index_answers.specs.Words.{lacks_words}
use Rattle.line_commands.specs.Commands.{Command, Ask, At, Import, Check, Pin, Unpin, Merge, Step}
use Rattle.line_commands.specs.Commands.{Publish, Abandon, Trim, Status}
use Rattle.line_commands.specs.Requests.{Asks, IsUnread}
use Rattle.line_server.specs.declared.refusal.LineRefusal.{LineRefusal}
use Rattle.line_server.specs.declared.refusal.LineRefusal.TheVariants as refusals
use Rattle.line_server.specs.Pins.{pin_of}
use Rattle.line_server.specs.declared.held.Held.{Held}
use Rattle.line_server.specs.StateValue.{StateValue, HoldsBack, reason_of, met_after}
use Rattle.line_server.specs.Sources.{Releases}
use Rattle.line_server.specs.ReplyValue.{Answer, Rows, Ids, Dates, Done, digits_of}

-- what a reply depends on: the pins of the sessions, the store, and which commands are held back
pub record Server (D : Type 0) : Type 0 where
  pub pins : List (Option ℕ)
  pub store : StoreValue D
  pub held : Held

abbrev pub server : {D : Type 0} → StateValue → StoreValue D → Server D
server state store = record {
  pins = state.pins;
  store = store;
  held = state.held;
}

-- the store is unchanged, except perhaps its disk
pub record SameStore {D : Type 0} (old new : StoreValue D) : Type 0 where
  pub history : new.history ≡ old.history
  pub catalog : new.catalog ≡ old.catalog
  pub needs_reopen : new.needs_reopen ≡ old.needs_reopen

-- pins and store are unchanged, except perhaps the store's disk
pub record Same {D : Type 0} (old new : Server D) : Type 0 where
  pub pins : new.pins ≡ old.pins
  pub store : SameStore old.store new.store

-- ---- answers

-- how many imports a session sees
abbrev pub imports_seen : {D : Type 0} → Server D → ℕ → ℕ
imports_seen server session = pin_of server.pins session server.store.history.imports

-- What a question finds in the rows shown by a pin. A receipt isn't found in them, nor is what an
-- import added.
abbrev pub IsFound : Question → List RowValue → Answer → Type 0
IsFound (ForRows question) rows answer = answer ≡ Rows (rows_for question rows)
IsFound (ForIds question) rows answer =
    (ids : List ℕ) × AreIdsFor question rows ids × (answer ≡ Ids ids)
IsFound AskDates rows answer = answer ≡ Dates (dates rows)
IsFound Digest rows answer = answer ≡ digits_of (digest_of rows)
IsFound (AskReceipt number) rows answer = ⊥
IsFound (Added number kind after limit) rows answer = ⊥

-- The answer is what the question finds: on every disk if the index alone finds it, and otherwise,
-- when rows are read, on an honest disk. On every disk the answer consists of rows with the same
-- keys as those that the question finds (those of REPLACED and REPLACES in any order), and for
-- DIGEST of the digits of a digest of rows with the keys of all.
abbrev pub IsFinding : Type 0 → Question → List RowValue → Answer → Type 0
IsFinding honest (ForRows question) rows answer = (given : List RowValue) × (answer ≡ Rows given)
    × SameKeysFor question (map key_of given) (map key_of (rows_for question rows))
    × (honest → IsFound (ForRows question) rows answer)
IsFinding honest (ForIds question) rows answer = IsFound (ForIds question) rows answer
IsFinding honest AskDates rows answer = IsFound AskDates rows answer
IsFinding honest Digest rows answer = (digest : List ℕ) × (length digest ≡ 32)
    × (answer ≡ digits_of digest) × IsDigestByKey digest rows
    × (honest → IsFound Digest rows answer)
IsFinding honest (AskReceipt number) rows answer = ⊥
IsFinding honest (Added number kind after limit) rows answer = ⊥

-- the session's pin is set or removed; the store and its disk are unchanged
abbrev pub IsPinned : {D : Type 0} → Server D → Server D → ℕ → Option ℕ → Type 0
IsPinned old new session pin = new ≡ record old { pins = slice_set old.pins session pin }

-- An import of the release of this name, in the store's scope, had this result: on
-- every disk as far as files and counts go, and on an honest disk in every respect. (Which rows it
-- was compared with is said by `ComparesStored`.)
pub record IsImported {D : Type 0} (honest : Type 0) (releases : Releases) (name : List ℕ)
    (result : Result Receipt Refusal) (old new : Server D) : Type 0 where
  pub release : Release
  pub has : releases (scope_of old.store.catalog) name ≡ Some (files_of release)
  pub at_all : IsImportOnAnyDisk AnyRow result old.store new.store release
  pub imported : honest → IsImportOf result old.store new.store release
  pub pins : new.pins ≡ old.pins

-- A check of the release of this name, in the store's scope, had this result: the
-- same as for an import, but nothing is imported.
pub record IsChecked {D : Type 0} (honest : Type 0) (releases : Releases) (name : List ℕ)
    (result : Result Receipt Refusal) (old new : Server D) : Type 0 where
  pub release : Release
  pub has : releases (scope_of old.store.catalog) name ≡ Some (files_of release)
  pub at_all : IsCheckingOnAnyDisk AnyRow result old.store new.store release
  pub checked : honest → IsCheckingOf result old.store new.store release
  pub pins : new.pins ≡ old.pins

-- the words of a reply to an import or a check: its number, how many rows are new, and how many are
-- repeated
abbrev pub import_words : Receipt → List (List ℕ)
import_words receipt =
    decimal receipt.number ∷ decimal receipt.new ∷ decimal receipt.repeated ∷ []

abbrev pub number_or_none : Option ℕ → List ℕ
number_or_none None = codes "-"
number_or_none (Some n) = decimal n

-- how many rows are left to the merge in progress
abbrev pub left_of : Option CatalogMerge → List ℕ
left_of merge = number_or_none (option_map (λ m. m.left) merge)

-- the words of a reply to STATUS: the numbers of imports, rows and segments, and how many rows are
-- left to a merge
abbrev pub status_of : {D : Type 0} → StoreValue D → List (List ℕ)
status_of s = decimal s.history.imports ∷ decimal (length s.history.rows)
    ∷ decimal (length s.catalog.entries) ∷ left_of s.catalog.merge ∷ []

-- the words of a reply to RECEIPT: the import's number, how many rows it brought, and their
-- greatest effective time if it brought any
abbrev pub receipt_of : ℕ → ℕ → Option ℕ → List (List ℕ)
receipt_of number brought latest =
    decimal number ∷ decimal brought ∷ number_or_none latest ∷ []

-- An import among the first `seen` brought this many rows; nothing changes.
pub record IsReceived {D : Type 0} (seen number : ℕ) (answer : Answer) (old new : Server D)
    : Type 0 where
  pub open_still : old.store.needs_reopen ≡ false
  pub within : number ≤ seen
  pub brought : ℕ
  pub latest : Option ℕ
  pub receipt : ImportReceiptOf old.store.history number brought latest
  pub answer_is : answer ≡ Done (receipt_of number brought latest)
  pub unchanged : new ≡ old

-- the answer to a question that is asked of these rows; it changes nothing
abbrev pub IsAnswerIn : {D : Type 0} → Type 0 → Question → List RowValue → Answer → Server D
    → Server D → Type 0
IsAnswerIn honest question rows answer old new = (old.store.needs_reopen ≡ false) × Same old new
    × IsFinding honest question rows answer

-- the number is that of one of the first `seen` imports
abbrev pub IsNumber : (seen number : ℕ) → Type 0
IsNumber seen number = (1 ≤ number) × (number ≤ seen)

-- The answer to a question about the first `seen` imports; it changes nothing. ADDED asks for rows
-- as ROWS does, of those that an import was the first to bring.
abbrev pub IsAnswerAt : {D : Type 0} → Type 0 → ℕ → Question → Answer → Server D → Server D → Type 0
IsAnswerAt honest seen (AskReceipt number) answer old new = IsReceived seen number answer old new
IsAnswerAt honest seen (Added number kind after limit) answer old new = IsNumber seen number
    × IsAnswerIn honest (ForRows (AllRows kind after limit))
    (rows_added number old.store.history.rows) answer old new
IsAnswerAt honest seen question answer old new =
    IsAnswerIn honest question (rows_at seen old.store.history.rows) answer old new

-- The answer to a command, and the server after it. A question is asked about the imports that its
-- session sees, or after AT about the first `number`: then it is answered as in a session that is
-- pinned to them.
abbrev pub IsAnswer : {D : Type 0} → Type 0 → Releases → ℕ → Command → Answer → Server D → Server D
    → Type 0
IsAnswer honest releases session (Ask question) answer old new =
    IsAnswerAt honest (imports_seen old session) question answer old new
IsAnswer honest releases session (At number question) answer old new =
    (number ≤ old.store.history.imports) × IsAnswerAt honest number question answer old new
IsAnswer honest releases session (Import name) answer old new =
    (receipt : Receipt) × IsImported honest releases name (Ok receipt) old new
    × (answer ≡ Done (import_words receipt))
IsAnswer honest releases session (Check name) answer old new =
    (receipt : Receipt) × IsChecked honest releases name (Ok receipt) old new
    × (answer ≡ Done (import_words receipt))
IsAnswer honest releases session (Pin None) answer old new =
    IsPinned old new session (Some old.store.history.imports)
    × (answer ≡ Done (decimal old.store.history.imports ∷ []))
IsAnswer honest releases session (Pin (Some number)) answer old new =
    (number ≤ old.store.history.imports) × IsPinned old new session (Some number)
    × (answer ≡ Done (decimal number ∷ []))
IsAnswer honest releases session Unpin answer old new =
    IsPinned old new session None × (answer ≡ Done [])
IsAnswer honest releases session Merge answer old new =
    (left : ℕ) × IsBeginningOf (Ok left) old.store new.store × (new.pins ≡ old.pins)
    × (answer ≡ Done (decimal left ∷ []))
IsAnswer honest releases session (Step rows) answer old new =
    (left : ℕ) × IsSteppingOf (Ok left) old.store new.store rows × (new.pins ≡ old.pins)
    × (answer ≡ Done (decimal left ∷ []))
IsAnswer honest releases session Publish answer old new =
    IsPublishingOf (Ok tt) old.store new.store × (new.store.history ≡ old.store.history)
    × (new.pins ≡ old.pins) × (answer ≡ Done [])
IsAnswer honest releases session Abandon answer old new =
    IsAbandoningOf (Ok tt) old.store new.store × (new.pins ≡ old.pins) × (answer ≡ Done [])
IsAnswer honest releases session Trim answer old new =
    (bytes : ℕ) × IsTrimmingOf (Ok bytes) old.store new.store × (new.pins ≡ old.pins)
    × (answer ≡ Done [])
IsAnswer honest releases session Status answer old new =
    (old.store.needs_reopen ≡ false) × (new ≡ old) × (answer ≡ Done (status_of old.store))

-- ---- refusals

-- the store has to be opened again
abbrev pub IsClosed : {D : Type 0} → Refusal → Server D → Server D → Type 0
IsClosed refusal old new =
    (refusal ≡ store.ReopenNeeded) × (old.store.needs_reopen ≡ true) × (new ≡ old)

-- memory ran out
abbrev pub IsLacking : {D : Type 0} → Refusal → Server D → Server D → Type 0
IsLacking refusal old new =
    (refusal ≡ store.OutOfMemory) × (old.store.needs_reopen ≡ false) × Same old new

-- no row has to be read for what the question asks
abbrev pub AsksNoRow : Question → List RowValue → Type 0
AsksNoRow (ForRows question) rows = rows_for question rows ≡ []
AsksNoRow question rows = rows ≡ []

-- A question that is asked of these rows is refused as a call of the store that only reads. On an
-- honest disk nothing is reported as damaged. On every disk the disk fails, or a row is damaged,
-- only if the question asks for a row.
pub record IsUnfound {D : Type 0} (honest : Type 0) (rows : List RowValue) (question : Question)
    (refusal : Refusal) (old new : Server D) : Type 0 where
  pub cause : IsReadRefusal refusal old.store
  pub refused : IsRefused refusal old.store new.store
  pub undamaged : honest → refusal ≢ store.Damaged
  pub causes : AsksNoRow question rows → IsWithoutRead refusal
  pub pins : new.pins ≡ old.pins

-- the store's refusal of a question about the first `seen` imports
abbrev pub IsRefusalAt : {D : Type 0} → Type 0 → ℕ → Question → Refusal → Server D → Server D
    → Type 0
IsRefusalAt honest seen (AskReceipt number) refusal old new =
    (number ≤ seen) × IsClosed refusal old new
IsRefusalAt honest seen (ForIds question) refusal old new =
    IsClosed refusal old new ⊎ IsLacking refusal old new
IsRefusalAt honest seen AskDates refusal old new =
    IsClosed refusal old new ⊎ IsLacking refusal old new
IsRefusalAt honest seen (Added number kind after limit) refusal old new = IsNumber seen number
    × IsUnfound honest (rows_added number old.store.history.rows)
    (ForRows (AllRows kind after limit)) refusal old new
IsRefusalAt honest seen question refusal old new =
    IsUnfound honest (rows_at seen old.store.history.rows) question refusal old new

-- The store's refusal of a command. For an import or a check the source is asked first, and memory
-- may run out there too. On an honest disk no step of a merge finds damage.
abbrev pub IsStoreRefusal : {D : Type 0} → Type 0 → Releases → ℕ → Command → Refusal → Server D
    → Server D → Type 0
IsStoreRefusal honest releases session (Ask question) refusal old new =
    IsRefusalAt honest (imports_seen old session) question refusal old new
IsStoreRefusal honest releases session (At number question) refusal old new =
    (number ≤ old.store.history.imports) × IsRefusalAt honest number question refusal old new
IsStoreRefusal honest releases session (Import name) store.OutOfMemory old new = Same old new
IsStoreRefusal honest releases session (Import name) refusal old new =
    IsImported honest releases name (Err refusal) old new
IsStoreRefusal honest releases session (Check name) store.OutOfMemory old new = Same old new
IsStoreRefusal honest releases session (Check name) refusal old new =
    IsChecked honest releases name (Err refusal) old new
IsStoreRefusal honest releases session (Pin number) refusal old new = ⊥
IsStoreRefusal honest releases session Unpin refusal old new = ⊥
IsStoreRefusal honest releases session Merge refusal old new =
    IsBeginningOf (Err refusal) old.store new.store × (new.pins ≡ old.pins)
IsStoreRefusal honest releases session (Step rows) refusal old new =
    IsSteppingOf (Err refusal) old.store new.store rows × (honest → refusal ≢ store.Damaged)
    × (new.pins ≡ old.pins)
IsStoreRefusal honest releases session Publish refusal old new =
    IsPublishingOf (Err refusal) old.store new.store × (new.pins ≡ old.pins)
IsStoreRefusal honest releases session Abandon refusal old new =
    IsAbandoningOf (Err refusal) old.store new.store × (new.pins ≡ old.pins)
IsStoreRefusal honest releases session Trim refusal old new =
    IsTrimmingOf (Err refusal) old.store new.store × (new.pins ≡ old.pins)
IsStoreRefusal honest releases session Status refusal old new = IsClosed refusal old new

-- the question asks for the receipt of an import after the first `seen`, or for what it added, or
-- for what no import added
abbrev pub IsUnseen : ℕ → Question → Type 0
IsUnseen seen (AskReceipt number) = seen < number
IsUnseen seen (Added number kind after limit) = (number ≡ 0) ⊎ (seen < number)
IsUnseen seen question = ⊥

-- No import has the number: the store has fewer imports than PIN or AT names, or the session sees
-- fewer than the one that is asked for, or that is 0.
abbrev pub IsOutOfRange : {D : Type 0} → ℕ → Command → Server D → Type 0
IsOutOfRange session (Pin (Some number)) old = old.store.history.imports < number
IsOutOfRange session (Ask question) old = IsUnseen (imports_seen old session) question
IsOutOfRange session (At number question) old =
    (old.store.history.imports < number) ⊎ IsUnseen number question
IsOutOfRange session command old = ⊥

-- the command asks the source for the release of this name
abbrev pub NamesRelease : Command → List ℕ → Type 0
NamesRelease (Import name) other = other ≡ name
NamesRelease (Check name) other = other ≡ name
NamesRelease command other = ⊥

-- the line asks the source for no release: its command names none, or is held back
abbrev pub AsksNoRelease : (line : List ℕ) → Held → Type 0
AsksNoRelease line held =
    (session : ℕ) (command : Command) (name : List ℕ) → Asks line session command
    → NamesRelease command name → HoldsBack held command

-- the refusal of a command, and the server after it
abbrev pub IsRefusal : {D : Type 0} → Type 0 → Releases → ℕ → Command → LineRefusal → Server D
    → Server D → Type 0
IsRefusal honest releases session command (refusals.Unread reason) old new = ⊥
IsRefusal honest releases session command refusals.PinRange old new =
    IsOutOfRange session command old × (new ≡ old)
IsRefusal honest releases session command refusals.NoFolder old new =
    (name : List ℕ) × NamesRelease command name
    × (releases (scope_of old.store.catalog) name ≡ None) × (new ≡ old)
IsRefusal honest releases session command (refusals.Store refusal) old new =
    IsStoreRefusal honest releases session command refusal old new

-- The command, carried out, has this outcome. `ERR 1` and `ERR 2` say that memory ran out or the
-- disk failed; if it is neither, there is only one possible outcome on an honest disk.
abbrev pub IsOutcome : {D : Type 0} → Type 0 → Releases → ℕ → Command → Result Answer LineRefusal
    → Server D → Server D → Type 0
IsOutcome honest releases session command (Ok answer) old new =
    IsAnswer honest releases session command answer old new
IsOutcome honest releases session command (Err refusal) old new =
    IsRefusal honest releases session command refusal old new

-- a row of the answer may be a member of a reference set
abbrev pub NeedsMembers : Question → Type 0
NeedsMembers (ForRows question) = Has (kinds_for question) kinds.Member
NeedsMembers (Added number kind after limit) = kind ≡ kinds.Member
NeedsMembers _ = ⊥

-- What the store lacks for the question, by its refusal: a later layout, if the question needs
-- members and the store's layout keeps none; or words, if it is for words.
abbrev pub LacksFor : {D : Type 0} → Question → StoreValue D → Refusal → Type 0
LacksFor question s store.LaterVersion =
    (scope_of s.catalog ≡ scopes.Basic) × NeedsMembers question
LacksFor (ForRows question) s store.NotKept = lacks_words question s.words ≡ true
LacksFor question s refusal = ⊥

-- what the store lacks for the command; after AT, about imports that the store has
abbrev pub Lacks : {D : Type 0} → Command → StoreValue D → Refusal → Type 0
Lacks (Ask question) s refusal = LacksFor question s refusal
Lacks (At number question) s refusal =
    (number ≤ s.history.imports) × LacksFor question s refusal
Lacks command s refusal = ⊥

abbrev pub LacksAny : {D : Type 0} → Command → StoreValue D → Type 0
LacksAny command s = (refusal : Refusal) × Lacks command s refusal

-- The command is held back: it is refused for that reason, and nothing changes.
pub record IsRefusedAsHeld {D : Type 0} (command : Command) (outcome : Result Answer LineRefusal)
    (old new : Server D) : Type 0 where
  pub held_back : HoldsBack old.held command
  pub refused : outcome ≡ Err (reason_of old.held)
  pub unchanged : new ≡ old

-- The store lacks what the command needs: it is refused so, and nothing changes.
pub record IsRefusedForLack {D : Type 0} (command : Command) (outcome : Result Answer LineRefusal)
    (old new : Server D) : Type 0 where
  pub lack : Refusal
  pub lacks : Lacks command old.store lack
  pub refused : outcome ≡ Err (refusals.Store lack)
  pub unchanged : new ≡ old

-- The command isn't held back, and the store lacks nothing for it. It has this outcome, which
-- decides what is held back from then on.
pub record IsPerformed {D : Type 0} (honest : Type 0) (releases : Releases) (session : ℕ)
    (command : Command) (outcome : Result Answer LineRefusal) (old new : Server D) : Type 0 where
  pub free : HoldsBack old.held command → ⊥
  pub has_all : LacksAny command old.store → ⊥
  pub comes_out : IsOutcome honest releases session command outcome old new
  pub damage : new.held ≡ met_after outcome old.held

-- A line that spells a request is answered by the outcome of its command, or refused because it is
-- held back or the store lacks what it needs. Any other line is refused with the first reason why
-- it is no request, and nothing changes.
abbrev pub Replies : {D : Type 0} → Type 0 → Releases → List ℕ → Result Answer LineRefusal
    → Server D → Server D → Type 0
Replies honest releases text outcome old new =
    ((session : ℕ) × (command : Command) × Asks text session command
    × (IsRefusedAsHeld command outcome old new ⊎ IsRefusedForLack command outcome old new
    ⊎ IsPerformed honest releases session command outcome old new))
    ⊎
    ((reason : Unread) × IsUnread text reason × (outcome ≡ Err (refusals.Unread reason))
    × (new ≡ old))

-- the session's command asks the question about the first `pin` imports
abbrev pub IsAskedOf : {D : Type 0} → Server D → ℕ → Command → Question → ℕ → Type 0
IsAskedOf server session command question pin =
    ((command ≡ Ask question) × (imports_seen server session ≡ pin))
    ⊎
    ((command ≡ At pin question) × (pin ≤ server.store.history.imports))
