-- Commands that ask for no rows, as responses.
use Rattle.std.proofs.Common.{◌≡◌, ◌≢◌, ◌⊎◌, ℕ, ◌≤◌, ◌<◌, length, Bool, true, false, List, [], ◌∷◌, refl, sym, ap, subst, ◌∙◌, get_or, IfSome, Result, Ok, Err, inl, inr, Option, Some, None, arith}
use Rattle.disk_model.specs.View.{DiskView}
use Rattle.std.specs.Prelude.{decimal, slice_set, unwrap_or}
use Rattle.std.proofs.lemmas.Bool.{false≢true}
use Rattle.std.proofs.lemmas.List.Elements.{All-set}
use Rattle.history_model.specs.History.{rows_at, full}
use Rattle.import_check.specs.declared.release.Release.{Release}
use Rattle.rf2_values.specs.declared.row.Kind.{Kind}
use Rattle.rf2_values.specs.declared.key.Key.{Key}
use Rattle.history_model.specs.Brought.{ImportReceiptOf}
use Rattle.history_store.specs.declared.refusal.Refusal.{Refusal}
use Rattle.history_store.specs.declared.refusal.Refusal.TheVariants as store
use Rattle.history_store.specs.StoreValue.{StoreValue}
use Rattle.history_store.specs.Queries.{is_listed}
use Rattle.history_store.specs.Stored.{IsStored}
use Rattle.blocks.proofs.Looked.{none_looks_up}
use Rattle.history_store.specs.Answers.{CountsRefusal}
use Rattle.line_commands.specs.declared.unread.Unread.{Unread}
use Rattle.question_model.specs.Questions.{Question, Dates, Digest, Receipt as AskReceipt, Added, ForRows, ForIds}
use Rattle.line_commands.specs.Commands.{Command, Ask, At, Import, Check, Pin, Unpin, Merge, Step, Publish, Abandon, Trim, Status}
use Rattle.line_commands.specs.Requests.{Asks, IsUnread}
use Rattle.line_commands.proofs.Readings.{asked_is_read, one_reading}
use Rattle.line_server.specs.declared.refusal.LineRefusal.{LineRefusal}
use Rattle.line_server.specs.declared.refusal.LineRefusal.TheVariants as refusals
use Rattle.line_server.specs.Pins.{AreWithin, pin_of}
use Rattle.line_server.specs.Sources.{Releases, SourceView, source_view}
use Rattle.line_server.specs.ReplyValue.{Answer, Done, ReplyValue, reply_value}
use Rattle.line_server.specs.Replies.{IsUnseen, Server, imports_seen, IsFound, IsAnswer, IsAnswerAt, IsRefusalAt, IsClosed, IsLacking, IsOutOfRange, Lacks, LacksAny, Replies, receipt_of, status_of, server}
use Rattle.store_life.specs.Life.{Other}
use Rattle.line_server.specs.Turns.{CountsOutcome, GoesBy, HasTurn, IfRefused, IsComparedWith, IsToldBy, LeavesAsked, LeavesDisk}
use Rattle.line_server.specs.StateValue.{StateValue, IsChange, HoldsBack, reason_of}
use Rattle.line_server.proofs.HeldBack.{change_of, reason_compares, reason_kept, reason_counts}
use Rattle.line_server.specs.Private.{IsResponse, IsQueried, IsCarriedOut, AsksIndex}
use Rattle.line_server.proofs.Alike.{turn_of}
use Rattle.store_life.proofs.Made.{unmade}
use Rattle.line_server.proofs.Finding.{same_from}
use Rattle.line_server.proofs.Queried.{responded, queried, refused_by}
use Rattle.line_server.proofs.KnownRead.{none_known}

abbrev is_fault : Refusal → Bool
is_fault store.DiskFault = true
is_fault _ = false

fault_or_none : (e : Refusal) → (e ≡ store.DiskFault) ⊎ (e ≢ store.DiskFault)
fault_or_none store.DiskFault = inl refl
fault_or_none _ = inr (λ same. false≢true (ap is_fault same))

-- ---- what the index alone answers

-- the store is closed, or memory lacks
abbrev IsUnlisted : {D : Type 0} → Refusal → StoreValue D → Type 0
IsUnlisted refusal s = ((refusal ≡ store.ReopenNeeded) × (s.needs_reopen ≡ true)) ⊎ ((refusal ≡ store.OutOfMemory) × (s.needs_reopen ≡ false))

module _ {D : Type 0} (view : D → DiskView) (pin : ℕ) (s : StoreValue D) where
  index_answer : (question : Question) (answer : Answer) (state : StateValue) → AsksIndex question → s.needs_reopen ≡ false → IsFound question (rows_at pin s.history.rows) answer
      → IsAnswerAt (view s.disk).is_honest pin question answer (server state s) (server state s)
  index_answer (ForIds ids) answer state q still f = (still, same_from (server state s) (server state s) refl, f)
  index_answer Dates answer state q still f = (still, same_from (server state s) (server state s) refl, f)
  index_answer question answer state q still f = absurd q

  index_refused : (question : Question) (refusal : Refusal) (old new : Server D) → AsksIndex question → IsClosed refusal old new ⊎ IsLacking refusal old new
      → IsRefusalAt (view s.disk).is_honest pin question refusal old new
  index_refused (ForIds ids) refusal old new q why = why
  index_refused Dates refusal old new q why = why
  index_refused question refusal old new q why = absurd q

  index_left : (question : Question) (outcome : Result Answer LineRefusal) → AsksIndex question → LeavesAsked view pin question outcome s s
  index_left (ForIds ids) outcome q = refl
  index_left Dates outcome q = refl
  index_left question outcome q = absurd q

  module _ (question : Question) (asks : AsksIndex question) where
    pub index_found : (answer : Answer) (reply : ReplyValue) → s.needs_reopen ≡ false → IsFound question (rows_at pin s.history.rows) answer → reply ≡ reply_value (Ok answer) → IsQueried (Ok reply) view question pin s s
    index_found answer reply still is told =
        queried view (Ok reply) question pin (Ok answer) s s (λ met. refl) told
        (λ state. index_answer question answer state asks still is) (unmade view s) refl (index_left question (Ok answer) asks) (omega arith)

    pub index_unfound : (refusal : Refusal) → IsUnlisted refusal s → IsQueried (Err (refusals.Store refusal)) view question pin s s
    index_unfound refusal why =
        queried view (Err (refusals.Store refusal)) question pin (Err (refusals.Store refusal)) s s (λ met. refl) refl
        (λ state. index_refused question refusal (server state s) (server (refused_by refusal state) s) asks (cause state why)) (unmade view s) (counted refusal why) (index_left question (Err (refusals.Store refusal)) asks) (omega arith) where
          cause : (state : StateValue) → IsUnlisted refusal s → IsClosed refusal (server state s) (server (refused_by refusal state) s) ⊎ IsLacking refusal (server state s) (server (refused_by refusal state) s)
          cause state (inl w) = inl (w.0, w.1, ap (λ (r : Refusal). server (refused_by r state) s) w.0)
          cause state (inr w) = inr (w.0, w.1, record { pins = refl; store = record { history = refl; catalog = refl; needs_reopen = refl } })

          counted : (e : Refusal) → IsUnlisted e s → CountsRefusal e (view s.disk).failures (view s.disk).failures
          counted e (inl w) = subst (λ (r : Refusal). CountsRefusal r (view s.disk).failures (view s.disk).failures) (sym w.0) refl
          counted e (inr w) = subst (λ (r : Refusal). CountsRefusal r (view s.disk).failures (view s.disk).failures) (sym w.0) refl

    pub index_untold : s.needs_reopen ≡ false → IsQueried (Err (refusals.Store store.OutOfMemory)) view question pin s s
    index_untold still = index_unfound store.OutOfMemory (inr (refl, still))

-- ---- STATUS

module _ {D : Type 0} (view : D → DiskView) (s : StoreValue D) where
  pub status_told : (reply : ReplyValue) → s.needs_reopen ≡ false → reply ≡ reply_value (Ok (Done (status_of s))) → IsCarriedOut (Ok reply) view Status s s
  status_told reply still told has session state free =
      responded view (Ok reply) has session Status (Ok (Done (status_of s))) (server state s) (server state s) free (λ later. later.1) refl told (still, refl, refl) (unmade view s) refl refl (omega arith)

  pub status_closed : s.needs_reopen ≡ true → IsCarriedOut (Err (refusals.Store store.ReopenNeeded)) view Status s s
  status_closed needs has session state free =
      responded view (Err (refusals.Store store.ReopenNeeded)) has session Status (Err (refusals.Store store.ReopenNeeded)) (server state s) (server state s) free (λ later. later.1) refl refl
      (refl, needs, refl) (unmade view s) refl refl (omega arith)

-- ---- whatever the source has

pub any_source : {D : Type 0} (source : SourceView) (view : D → DiskView) (result : Result ReplyValue LineRefusal) (session : ℕ) (command : Command) (old new : Server D)
    → IsResponse result (source_view (Unit {0}) source.releases) view session command old new → IsResponse result source view session command old new
any_source source view result session command old new r = record {
  turned = λ line asks.
      let t = r.turned line asks in
      (t.0, t.1, record { releases = t.2.releases; goes = t.2.goes; own = λ h. t.2.own tt; call = t.2.call; counts = t.2.counts }, t.3);
  grows = r.grows;
}

-- ---- UNPIN

-- what is kept once a session is pinned, or unpinned
abbrev pub repinned : StateValue → ℕ → Option ℕ → StateValue
repinned state session pin = record state { pins = slice_set state.pins session pin }

module _ {D : Type 0} (source : SourceView) (view : D → DiskView) (session : ℕ) (state : StateValue) (s : StoreValue D) where
  pub unpinned : (reply : ReplyValue) → reply ≡ reply_value (Ok (Done [])) → IsResponse (Ok reply) source view session Unpin (server state s) (server (repinned state session None) s)
  unpinned reply told = any_source source view (Ok reply) session Unpin (server state s) (server (repinned state session None) s)
      (responded view (Ok reply) source.releases session Unpin (Ok (Done [])) (server state s) (server (repinned state session None) s) (change_of state.held Unpin) (λ later. later.1) refl told (refl, refl) (unmade view s) refl refl (omega arith))

-- ---- PIN

module _ {D : Type 0} (view : D → DiskView) (session : ℕ) (state : StateValue) (s : StoreValue D) (number : Option ℕ) (has : Releases) where
  pub pinned : (pin : ℕ) (reply : ReplyValue) → (pin ≤ s.history.imports) × (pin ≡ unwrap_or number s.history.imports) → reply ≡ reply_value (Ok (Done (decimal pin ∷ [])))
      → IsResponse (Ok reply) (source_view (Unit {0}) has) view session (Pin number) (server state s) (server (repinned state session (Some pin)) s)
  pinned pin reply h told =
      responded view (Ok reply) has session (Pin number) (Ok (Done (decimal pin ∷ []))) (server state s) (server (repinned state session (Some pin)) s) (change_of state.held (Pin number)) (λ later. later.1) refl told
      (answered_so number h) (unmade view s) refl refl (omega arith) where
        answered_so : (number : Option ℕ) → (pin ≤ s.history.imports) × (pin ≡ unwrap_or number s.history.imports)
            → IsAnswer (view s.disk).is_honest has session (Pin number) (Done (decimal pin ∷ [])) (server state s) (server (repinned state session (Some pin)) s)
        answered_so None h = (ap (λ (k : ℕ). server (repinned state session (Some k)) s) h.1, ap (λ (k : ℕ). Done (decimal k ∷ [])) h.1)
        answered_so (Some n) h = (subst (λ (k : ℕ). k ≤ s.history.imports) h.1 h.0, ap (λ (k : ℕ). server (repinned state session (Some k)) s) h.1, ap (λ (k : ℕ). Done (decimal k ∷ [])) h.1)

  pub out_of_range : (n : ℕ) × (number ≡ Some n) × (s.history.imports < n) → IsResponse (Err refusals.PinRange) (source_view (Unit {0}) has) view session (Pin number) (server state s) (server state s)
  out_of_range h =
      responded view (Err refusals.PinRange) has session (Pin number) (Err refusals.PinRange) (server state s) (server state s) (change_of state.held (Pin number)) (λ later. later.1) refl refl
      (subst (λ (o : Option ℕ). IsOutOfRange session (Pin o) (server state s)) (sym h.1) h.2, refl) (unmade view s) refl refl (omega arith)

-- ---- RECEIPT

module _ {D : Type 0} (view : D → DiskView) (number pin : ℕ) (s : StoreValue D) where
  pub import_told : (brought : ℕ) (latest : Option ℕ) (reply : ReplyValue) → number ≤ pin → s.needs_reopen ≡ false → ImportReceiptOf s.history number brought latest → reply ≡ reply_value (Ok (Done (receipt_of number brought latest)))
      → IsQueried (Ok reply) view (AskReceipt number) pin s s
  import_told brought latest reply within still receipt told =
      queried view (Ok reply) (AskReceipt number) pin (Ok (Done (receipt_of number brought latest))) s s (λ met. refl) told
      (λ state. record { open_still = still; within = within; brought = brought; latest = latest; receipt = receipt; answer_is = refl; unchanged = refl })
      (unmade view s) refl refl (omega arith)

  pub import_closed : (refusal : Refusal) → number ≤ pin → (refusal ≡ store.ReopenNeeded) × (s.needs_reopen ≡ true) → IsQueried (Err (refusals.Store refusal)) view (AskReceipt number) pin s s
  import_closed refusal within why =
      queried view (Err (refusals.Store refusal)) (AskReceipt number) pin (Err (refusals.Store refusal)) s s (λ met. refl) refl
      (λ state. (within, (why.0, why.1, ap (λ (r : Refusal). server (refused_by r state) s) why.0))) (unmade view s)
      (subst (λ (r : Refusal). CountsRefusal r (view s.disk).failures (view s.disk).failures) (sym why.0) refl) refl (omega arith)

  pub import_unseen : pin < number → IsQueried (Err refusals.PinRange) view (AskReceipt number) pin s s
  import_unseen above =
      queried view (Err refusals.PinRange) (AskReceipt number) pin (Err refusals.PinRange) s s (λ met. refl) refl
      (λ state. (above, refl)) (unmade view s) refl refl (omega arith)

-- ---- AT

-- what a question leaves that is refused before the store is asked
unasked_left : {D : Type 0} (view : D → DiskView) (seen : ℕ) (question : Question) (refusal : LineRefusal) (s : StoreValue D) → LeavesAsked view seen question (Err refusal) s s
unasked_left view seen (ForIds ids) refusal s = refl
unasked_left view seen Dates refusal s = refl
unasked_left view seen (AskReceipt other) refusal s = refl
unasked_left view seen (Added number kind after limit) refusal s = ((λ h. refl, none_looks_up (is_listed s.catalog.entries) s.cache (view s.disk).bytes_read, refl), tt, omega arith)
unasked_left view seen Digest refusal s = ((λ h. refl, none_looks_up (is_listed s.catalog.entries) s.cache (view s.disk).bytes_read, refl), tt, omega arith)
unasked_left view seen (ForRows question) refusal s = ((λ h. refl, none_looks_up (is_listed s.catalog.entries) s.cache (view s.disk).bytes_read, refl), tt, omega arith)

-- ---- ADDED

-- no import that is seen has the number
pub added_unseen : {D : Type 0} (view : D → DiskView) (number : ℕ) (kind : Kind) (after : Option Key) (limit pin : ℕ) (s : StoreValue D) → IsUnseen pin (Added number kind after limit) → IsQueried (Err refusals.PinRange) view (Added number kind after limit) pin s s
added_unseen view number kind after limit pin s unseen =
    queried view (Err refusals.PinRange) (Added number kind after limit) pin (Err refusals.PinRange) s s (λ met. refl) refl
    (λ state. (unseen, refl)) (unmade view s) refl (unasked_left view pin (Added number kind after limit) refusals.PinRange s) (omega arith)

module _ {D : Type 0} (view : D → DiskView) (number : ℕ) (question : Question) (old new : StoreValue D) where
  -- as the question is answered that is asked of the first so many imports
  pub asked_behind : (result : Result ReplyValue LineRefusal) → (LacksAny (At number question) old → ⊥) → number ≤ old.history.imports → IsQueried result view question number old new → IsCarriedOut result view (At number question) old new
  asked_behind result has_all within r has session state free = r has session state (At number question) (inr (refl, within)) has_all

  -- there are fewer imports
  pub above_all : old.history.imports < number → IsCarriedOut (Err refusals.PinRange) view (At number question) old old
  above_all above has session state free =
      responded view (Err refusals.PinRange) has session (At number question) (Err refusals.PinRange) (server state old) (server state old) free (λ later. let within = later.0 in omega (arith, above, within)) refl refl
      (inl above, refl) (unmade view old) refl (unasked_left view number question refusals.PinRange old) (omega arith)

-- ---- pins

pub within_set : (imports : ℕ) (pins : List (Option ℕ)) (session : ℕ) (pin : Option ℕ) → IfSome pin (λ number. number ≤ imports) → AreWithin imports pins → AreWithin imports (slice_set pins session pin)
within_set imports pins session pin h within = All-set (λ (o : Option ℕ). IfSome o (λ number. number ≤ imports)) pins session pin h within

-- pins stay within as the imports grow
pub within_more : (imports more : ℕ) (pins : List (Option ℕ)) → imports ≤ more → AreWithin imports pins → AreWithin more pins
within_more imports more pins le within k d lt = grown (get_or pins k d) (within k d lt) where
  grown : (pin : Option ℕ) → IfSome pin (λ number. number ≤ imports) → IfSome pin (λ number. number ≤ more)
  grown None h = tt
  grown (Some number) h = omega (arith, le, h)

-- the pin of a session is no more than the imports
pub pin_within : (imports : ℕ) (pins : List (Option ℕ)) (session : ℕ) → session < length pins → AreWithin imports pins → pin_of pins session imports ≤ imports
pin_within imports pins session lt within = below (get_or pins session None) (within session None lt) where
  below : (o : Option ℕ) → IfSome o (λ number. number ≤ imports) → unwrap_or o imports ≤ imports
  below None h = omega arith
  below (Some number) h = h

-- ---- a line as what was read of it

-- the reply that is written says what came out
pub answered_so : (reply : ReplyValue) (outcome : Result Answer LineRefusal) → IsToldBy (Ok reply) outcome → reply ≡ reply_value outcome
answered_so reply (Ok answer) told = told
answered_so reply (Err reason) told = absurd told

pub refused_so : (refusal : LineRefusal) (reply : ReplyValue) (outcome : Result Answer LineRefusal) → reply ≡ reply_value (Err refusal) → IsToldBy (Err refusal) outcome → reply ≡ reply_value outcome
refused_so refusal reply (Ok answer) says told = absurd told
refused_so refusal reply (Err reason) says told = says ∙ sym (ap (λ (r : LineRefusal). reply_value (Err r)) told)

module _ {D : Type 0} (source : SourceView) (view : D → DiskView) (line : List ℕ) where
  -- the line asks nothing
  pub nothing_asked : (reason : Unread) (s : Server D) → IsUnread line reason → HasTurn source view line s s (λ turn. IsToldBy (Err (refusals.Unread reason)) turn.outcome)
  nothing_asked reason s is = (
    turn_of (Err (refusals.Unread reason)) Other s s line,
    refl,
    record {
      releases = source.releases;
      goes = none_goes source.releases;
      own = λ h. none_goes source.releases;
      call = unmade view s.store;
      counts = refl;
    },
    refl,
  ) where
    none_goes : (releases : Releases) → GoesBy view releases s (turn_of (Err (refusals.Unread reason)) Other s s line) s
    none_goes releases = record {
      replies = inr (reason, is, refl, refl);
      asked = tt;
      disk = λ session command asks. absurd (asked_is_read line session command reason asks is);
    }

  -- the line asks a command that is refused before it is carried out: the store isn't called
  module _ (session : ℕ) (command : Command) (s : Server D) (refusal : LineRefusal) (asks : Asks line session command) where
    refused_turn : ((releases : Releases) → Replies (view s.store.disk).is_honest releases line (Err refusal) s s) → ((releases : Releases) → LeavesDisk view releases (imports_seen s session) command (Err refusal) s.store s.store)
        → CountsOutcome (Err refusal) (view s.store.disk).failures (view s.store.disk).failures → HasTurn source view line s s (λ turn. IsToldBy (Err refusal) turn.outcome)
    refused_turn replies left counts = (
      turn_of (Err refusal) Other s s line,
      refl,
      record {
        releases = source.releases;
        goes = goes source.releases;
        own = λ h. goes source.releases;
        call = unmade view s.store;
        counts = counts;
      },
      refl,
    ) where
      goes : (releases : Releases) → GoesBy view releases s (turn_of (Err refusal) Other s s line) s
      goes releases = record {
        replies = replies releases;
        asked = tt;
        disk = λ other also asked.
            let one = one_reading line session other command also asks asked in
            subst (λ (c : Command). LeavesDisk view releases (imports_seen s other) c (Err refusal) s.store s.store) one.1
            (subst (λ (n : ℕ). LeavesDisk view releases (imports_seen s n) command (Err refusal) s.store s.store) one.0 (left releases));
      }

  module _ (session : ℕ) (command : Command) (s : Server D) (asks : Asks line session command) where
    -- a change is refused, and the disk didn't fail
    change_left : (refusal : LineRefusal) → ((so : Type 0) → so → IfRefused (Err refusal) so) → ((release : Release) → IsComparedWith (full s.store.history) (IsStored view s.store) release (Err refusal)) → (releases : Releases) (seen : ℕ) (c : Command) → IsChange c → LeavesDisk view releases seen c (Err refusal) s.store s.store
    change_left refusal kept compared releases seen (Import name) h = (λ up. kept _ refl, none_known view releases name 1 s.store, λ release has. compared release)
    change_left refusal kept compared releases seen (Check name) h = ((λ up. refl, none_looks_up (is_listed s.store.catalog.entries) s.store.cache (view s.store.disk).bytes_read, refl), none_known view releases name 0 s.store, λ release has. compared release)
    change_left refusal kept compared releases seen Merge h = refl
    change_left refusal kept compared releases seen (Step rows) h = (λ up. kept _ refl, (s.store.cache, none_looks_up (is_listed s.store.catalog.entries) s.store.cache (view s.store.disk).bytes_read, inl refl), (omega arith, omega arith))
    change_left refusal kept compared releases seen Publish h = (λ up. kept _ refl, (omega arith, omega arith))
    change_left refusal kept compared releases seen Abandon h = refl
    change_left refusal kept compared releases seen Trim h = (λ up. (tt, kept _ refl), refl, omega arith)
    change_left refusal kept compared releases seen c h = absurd h

    -- the command is held back
    pub held_back : HoldsBack s.held command → HasTurn source view line s s (λ turn. IsToldBy (Err (reason_of s.held)) turn.outcome)
    held_back held =
        refused_turn session command s (reason_of s.held) asks (λ releases. inl (session, command, asks, inl (record { held_back = held; refused = refl; unchanged = refl })))
        (λ releases. change_left (reason_of s.held) (reason_kept s.held) (λ release. reason_compares s.held (full s.store.history) (IsStored view s.store) release) releases (imports_seen s session) command (change_of s.held command held)) (reason_counts s.held (view s.store.disk).failures)

    -- the store lacks what the command needs
    lack_left : (lack : Refusal) (releases : Releases) (seen : ℕ) (c : Command) → Lacks c s.store lack → LeavesDisk view releases seen c (Err (refusals.Store lack)) s.store s.store
    lack_left lack releases seen (Ask question) h = unasked_left view seen question (refusals.Store lack) s.store
    lack_left lack releases seen (At number question) h = unasked_left view number question (refusals.Store lack) s.store
    lack_left lack releases seen c h = absurd h

    -- nor is it counted as a failure of the disk
    lack_counts : (lack : Refusal) (c : Command) (failures : ℕ) → Lacks c s.store lack → CountsOutcome (Err (refusals.Store lack)) failures failures
    lack_counts store.LaterVersion c failures h = refl
    lack_counts store.NotKept c failures h = refl
    lack_counts lack (Ask question) failures h = absurd h
    lack_counts lack (At number question) failures h = absurd h.1
    lack_counts lack c failures h = absurd h

    pub for_lack : (lack : Refusal) → Lacks command s.store lack → HasTurn source view line s s (λ turn. IsToldBy (Err (refusals.Store lack)) turn.outcome)
    for_lack lack lacks =
        refused_turn session command s (refusals.Store lack) asks (λ releases. inl (session, command, asks, inr (inl (record { lack = lack; lacks = lacks; refused = refl; unchanged = refl }))))
        (λ releases. lack_left lack releases (imports_seen s session) command lacks) (lack_counts lack command (view s.store.disk).failures lacks)
