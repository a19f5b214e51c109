-- Lines that are answered one after the other.
use Rattle.std.specs.Prelude.{◌≡◌, Bool, ℕ, ◌≤◌, List, [], ◌∷◌, map, take, Some}
use Rattle.std.specs.Prelude.{Result, Ok, Err, OnOk, sum_by, ◌+◌}
use Rattle.disk_model.specs.View.{DiskView, AtMost}
use Rattle.std.specs.List.{flat_map}
use Rattle.import_check.specs.declared.scope.Scope.{Scope}
use Rattle.import_check.specs.declared.release.Release.{Release}
use Rattle.import_check.specs.declared.found.NewRows.{NewRows}
use Rattle.import_check.specs.Release.{files_of, HasPossibleContradiction}
use Rattle.import_check.specs.NewRows.{BringsByKey}
use Rattle.history_store.specs.declared.refusal.Refusal.TheVariants as store
use Rattle.history_store.specs.StoreValue.{StoreValue}
use Rattle.history_store.specs.Stored.{IsStored}
use Rattle.history_store.specs.Answers.{CountsRefusal}
use Rattle.history_store.specs.Meters.{ReadsKnown}
use Rattle.history_store.specs.Merging.{trimmed_len, step_cost}
use Rattle.history_store.specs.Queries.{ReadsThroughCache, StepsThroughCache, IsStoredFor}
use Rattle.as_of_index.specs.Reader.{AreFor}
use Rattle.index_answers.specs.Keys.{is_put_in_order}
use Rattle.history_store.specs.Reading.{row_cost}
use Rattle.history_store.specs.Prepared.{scope_of}
use Rattle.rf2_values.specs.Row.{RowValue}
use Rattle.rf2_values.specs.declared.key.Key.{Key}
use Rattle.history_model.specs.Exports.{added}
use Rattle.history_model.specs.History.{rows_at, full}
use Rattle.question_model.specs.Questions.{Question, ForRows, ForIds, Dates, Digest, Receipt, Added}
use Rattle.question_model.specs.Questions.{RowQuestion, AllRows}
use Rattle.question_model.specs.Wanted.{rows_for}
use Rattle.line_commands.specs.Commands.{Command, Ask, At, Import, Check, Step, Publish, Trim}
use Rattle.line_commands.specs.Requests.{Asks}
use Rattle.store_digest.specs.Digest.{IsDigestFor}
use Rattle.line_server.specs.declared.refusal.LineRefusal.{LineRefusal}
use Rattle.line_server.specs.declared.refusal.LineRefusal.TheVariants as refusals
use Rattle.line_server.specs.Sources.{Releases, SourceView}
use Rattle.line_server.specs.ReplyValue.{Answer, Rows, ReplyValue, reply_value, bytes_of, digits_of}
use Rattle.line_server.specs.declared.held.Held.{Held}
use Rattle.line_server.specs.StateValue.{met_after}
use Rattle.line_server.specs.Replies.{Server, Replies, AsksNoRelease, imports_seen}
use Rattle.store_life.specs.Life.{Call, Imported, Failed, Other, IsCall}

-- a line, its outcome, and how it changed the store's history
pub record Turn : Type 0 where
  pub line : List ℕ
  pub outcome : Result Answer LineRefusal
  pub call : Call

-- the line asks to import this release, in this scope
abbrev pub IsAskedFor : Releases → Scope → List ℕ → Release → Type 0
IsAskedFor releases scope line release =
    (session : ℕ) × (name : List ℕ) × Asks line session (Import name)
    × (releases scope name ≡ Some (files_of release))

-- the release that was imported, or in whose import the disk failed, is the one that the line asks
-- for
abbrev pub IsOfAsked : Releases → Scope → List ℕ → Call → Type 0
IsOfAsked releases scope line (Imported release) = IsAskedFor releases scope line release
IsOfAsked releases scope line (Failed release) = IsAskedFor releases scope line release
IsOfAsked releases scope line Other = Unit {0}

-- the count of the disk's failures: it has risen if the outcome is `ERR 2`, and otherwise is
-- unchanged
abbrev pub CountsOutcome : Result Answer LineRefusal → ℕ → ℕ → Type 0
CountsOutcome (Err (refusals.Store refusal)) old new = CountsRefusal refusal old new
CountsOutcome _ old new = new ≡ old

-- the fact holds after every refusal except `ERR 2`
abbrev pub IfRefused : Result Answer LineRefusal → Type 0 → Type 0
IfRefused (Ok answer) so = Unit {0}
IfRefused (Err (refusals.Store store.DiskFault)) so = Unit {0}
IfRefused (Err refusal) so = so

-- Reads asked for at most so many bytes, and at most so many other calls were made.
abbrev pub CostsAtMost : (bytes calls : ℕ) → DiskView → DiskView → Type 0
CostsAtMost bytes calls old new =
    AtMost bytes old.bytes_read new.bytes_read × AtMost calls old.other_calls new.other_calls

-- Reading through the cache doesn't change what a crash may leave of an honest disk. On every disk
-- only blocks of listed segments are read, and none that is cached, and no call but reads is made.
abbrev pub LeavesQueried : {D : Type 0} → (D → DiskView) → StoreValue D → StoreValue D → Type 0
LeavesQueried view old new =
    ((view old.disk).is_honest → (view new.disk).moments ≡ (view old.disk).moments)
    × ReadsThroughCache view old new × ((view new.disk).other_calls ≡ (view old.disk).other_calls)

-- the rows of an answer are read from the disk: each is stored there, with the key of a wanted one,
-- as `AreFor` says, and no more is read than they take
abbrev pub AreReadFrom : {D : Type 0} → (D → DiskView) → RowQuestion → (wanted : List RowValue)
    → Result Answer LineRefusal → StoreValue D → StoreValue D → Type 0
AreReadFrom view question wanted (Ok (Rows given)) old new =
    AreFor (is_put_in_order question) (IsStoredFor view old) given wanted
    × ((view new.disk).bytes_read ≤ (view old.disk).bytes_read + sum_by row_cost given)
AreReadFrom view question wanted _ old new = Unit {0}

-- what a question for rows leaves of the disk, if these are the wanted ones: no more is read than
-- they take, and what is answered is read from there
abbrev pub LeavesRead : {D : Type 0} → (D → DiskView) → RowQuestion → (wanted : List RowValue)
    → Result Answer LineRefusal → StoreValue D → StoreValue D → Type 0
LeavesRead view question wanted outcome old new =
    LeavesQueried view old new × AreReadFrom view question wanted outcome old new
    × ((view new.disk).bytes_read ≤ (view old.disk).bytes_read + sum_by row_cost wanted)

-- the digest that is answered is of rows which are read from the disk: each is stored there, with
-- the key of the one that is shown in its place
abbrev pub IsDigestRead : {D : Type 0} → (D → DiskView) → (shown : List RowValue)
    → Result Answer LineRefusal → StoreValue D → Type 0
IsDigestRead view shown (Ok answer) old = (digest : List ℕ) × (answer ≡ digits_of digest)
    × IsDigestFor (IsStoredFor view old) digest shown
IsDigestRead view shown (Err refusal) old = Unit {0}

-- what a question about the first `seen` imports leaves of the disk, which is unchanged if the
-- index alone answers it
abbrev pub LeavesAsked : {D : Type 0} → (D → DiskView) → ℕ → Question → Result Answer LineRefusal
    → StoreValue D → StoreValue D → Type 0
LeavesAsked view seen (ForRows question) outcome old new =
    LeavesRead view question (rows_for question (rows_at seen old.history.rows)) outcome old new
LeavesAsked view seen (ForIds question) outcome old new = new.disk ≡ old.disk
LeavesAsked view seen Dates outcome old new = new.disk ≡ old.disk
LeavesAsked view seen Digest outcome old new = LeavesQueried view old new
    × IsDigestRead view (rows_at seen old.history.rows) outcome old
    × ((view new.disk).bytes_read
    ≤ (view old.disk).bytes_read + sum_by row_cost (rows_at seen old.history.rows))
LeavesAsked view seen (Receipt number) outcome old new = new.disk ≡ old.disk
LeavesAsked view seen (Added number kind after limit) outcome old new =
    LeavesRead view (AllRows kind after limit) (added number kind after limit old.history.rows)
    outcome old new

-- the stored rows whose keys are in the release of the name are read, in the store's
-- scope, and so many bytes besides
abbrev pub ReadsKnownOf : {D : Type 0} → (D → DiskView) → Releases → List ℕ → (besides : ℕ)
    → StoreValue D → StoreValue D → Type 0
ReadsKnownOf view releases name besides old new =
    (release : Release) → releases (scope_of old.catalog) name ≡ Some (files_of release)
    → ReadsKnown view besides release old new

-- The release was compared with rows that may be stored: after `OK` each of its rows that isn't new
-- may be, and a line that is named as a contradiction differs from one that may be, or from an
-- earlier line.
abbrev pub IsComparedWith : List RowValue → (may_be : RowValue → Type 0) → Release
    → Result Answer LineRefusal → Type 0
IsComparedWith known may_be release (Ok answer) =
    (fresh : NewRows) × BringsByKey known may_be release fresh
IsComparedWith known may_be release (Err (refusals.Store (store.Contradiction file line))) =
    (key : Key) × HasPossibleContradiction known may_be release file line key
IsComparedWith known may_be release _ = Unit {0}

-- the release of the name, in the store's scope, was compared with rows that are
-- stored
abbrev pub ComparesStored : {D : Type 0} → (D → DiskView) → Releases → List ℕ
    → Result Answer LineRefusal → StoreValue D → Type 0
ComparesStored view releases name outcome old =
    (release : Release) → releases (scope_of old.catalog) name ≡ Some (files_of release)
    → IsComparedWith (full old.history) (IsStored view old) release outcome

-- What a command leaves of the disk. On an honest one IMPORT, STEP and PUBLISH may change what a
-- crash leaves, but not if they are refused for a reason other than a disk failure. After TRIM a
-- read returns what it returned before, up to the last block that is listed or reserved, and
-- nothing after it. CHECK and STEP look up blocks as a question does, and STEP may then drop those
-- from the cache that the merge reserved. On every disk and whatever the outcome, CHECK and IMPORT
-- read no rows but those with the keys of the release, with which they compare it, and IMPORT one
-- byte besides; STEP reads no more than the output has bytes and two blocks for each row, PUBLISH
-- one byte at most, and TRIM none; besides reads, STEP makes one call at most, PUBLISH seven, and
-- TRIM three. A question in a session that sees `seen` imports leaves the disk as `LeavesAsked`
-- says, and every other command leaves the disk unchanged.
abbrev pub LeavesDisk : {D : Type 0} → (D → DiskView) → Releases → ℕ → Command
    → Result Answer LineRefusal → StoreValue D → StoreValue D → Type 0
LeavesDisk view releases seen (Ask question) outcome old new =
    LeavesAsked view seen question outcome old new
LeavesDisk view releases seen (At number question) outcome old new =
    LeavesAsked view number question outcome old new
LeavesDisk view releases seen (Import name) outcome old new =
    ((view old.disk).is_honest
    → IfRefused outcome ((view new.disk).moments ≡ (view old.disk).moments))
    × ReadsKnownOf view releases name 1 old new × ComparesStored view releases name outcome old
LeavesDisk view releases seen (Check name) outcome old new =
    LeavesQueried view old new × ReadsKnownOf view releases name 0 old new
    × ComparesStored view releases name outcome old
LeavesDisk view releases seen (Step rows) outcome old new =
    ((view old.disk).is_honest
    → IfRefused outcome ((view new.disk).moments ≡ (view old.disk).moments))
    × StepsThroughCache view old new
    × CostsAtMost (step_cost rows old.catalog.merge) 1 (view old.disk) (view new.disk)
LeavesDisk view releases seen Publish outcome old new =
    ((view old.disk).is_honest
    → IfRefused outcome ((view new.disk).moments ≡ (view old.disk).moments))
    × CostsAtMost 1 7 (view old.disk) (view new.disk)
LeavesDisk view releases seen Trim outcome old new =
    ((view old.disk).is_honest
    → OnOk outcome ((view new.disk).moments.state.now ≡ take (trimmed_len old.catalog)
    (view old.disk).moments.state.now)
    × IfRefused outcome ((view new.disk).moments ≡ (view old.disk).moments))
    × ((view new.disk).bytes_read ≡ (view old.disk).bytes_read)
    × AtMost 3 (view old.disk).other_calls (view new.disk).other_calls
LeavesDisk view releases seen command outcome old new = new.disk ≡ old.disk

-- The turn's outcome is that of a server whose source has these releases, and which asks it for the
-- files that the store keeps; and the disk is left so.
pub record GoesBy {D : Type 0} (view : D → DiskView) (releases : Releases) (old : Server D)
    (turn : Turn) (new : Server D) : Type 0 where
  pub replies : Replies (view old.store.disk).is_honest releases turn.line turn.outcome old new
  pub asked : IsOfAsked releases (scope_of old.store.catalog) turn.line turn.call
  pub disk : (session : ℕ) (command : Command) → Asks turn.line session command
      → LeavesDisk view releases (imports_seen old session) command turn.outcome old.store new.store

-- One line was answered, as a server answers it whose source has some releases; if the source is
-- honest, these are its own.
pub record IsTurn {D : Type 0} (source : SourceView) (view : D → DiskView) (old : Server D)
    (turn : Turn) (new : Server D) : Type 0 where
  pub releases : Releases
  pub goes : GoesBy view releases old turn new
  pub own : source.is_honest → GoesBy view source.releases old turn new
  pub call : IsCall view old.store turn.call new.store
  pub counts : CountsOutcome turn.outcome (view old.store.disk).failures
      (view new.store.disk).failures

-- a line was answered by a turn of which this holds
abbrev pub HasTurn : {D : Type 0} → SourceView → (D → DiskView) → List ℕ → Server D → Server D
    → (Turn → Type 0) → Type 0
HasTurn source view line old new holds =
    (turn : Turn) × (turn.line ≡ line) × IsTurn source view old turn new × holds turn

-- the reply has the outcome's text; or the line was refused, and the refusal is returned
abbrev pub IsToldBy : Result ReplyValue LineRefusal → Result Answer LineRefusal → Type 0
IsToldBy (Ok reply) (Ok answer) = reply ≡ reply_value (Ok answer)
IsToldBy (Err refusal) (Err reason) = reason ≡ refusal
IsToldBy result outcome = ⊥

-- a line was answered with this reply
abbrev pub IsAnswered : {D : Type 0} → SourceView → (D → DiskView) → List ℕ → ReplyValue → Server D
    → Server D → Type 0
IsAnswered source view line reply old new =
    HasTurn source view line old new (λ turn. reply ≡ reply_value turn.outcome)

-- lines are answered one after the other
abbrev pub Run : {D : Type 0} → SourceView → (D → DiskView) → Server D → List Turn → Server D
    → Type 0
Run {D} source view old [] new = new ≡ old
Run {D} source view old (turn ∷ turns) new =
    (mid : Server D) × IsTurn source view old turn mid × Run source view mid turns new

-- None of the lines asks the source for a release: none names one, unless it is held back. The
-- first argument says what is held back before them.
abbrev pub AskNoRelease : Held → List Turn → Type 0
AskNoRelease held [] = Unit {0}
AskNoRelease held (turn ∷ turns) = AsksNoRelease turn.line held
    × AskNoRelease (met_after turn.outcome held) turns

abbrev pub lines_asked : List Turn → List (List ℕ)
lines_asked turns = map (λ turn. turn.line) turns

abbrev pub replies : List Turn → List ℕ
replies turns = flat_map (λ turn. bytes_of (reply_value turn.outcome)) turns
