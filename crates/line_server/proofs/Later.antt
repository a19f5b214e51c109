-- That only questions about members are answered 14, where the source gives no members unasked, and
-- only questions for words 16.
use Rattle.std.proofs.Common.{◌≡◌, ◌≢◌, ◌⊎◌, ℕ, Bool, true, false, List, Some, Result, Err, refl, sym, ap, subst, ◌∙◌, inl, inr}
use Rattle.std.proofs.lemmas.Bool.{false≢true}
use Rattle.disk_model.specs.View.{DiskView}
use Rattle.import_check.specs.declared.release.Release.{Release}
use Rattle.import_check.specs.declared.scope.Scope.{Scope}
use Rattle.import_check.specs.declared.scope.Scope.TheVariants as scopes
use Rattle.import_check.specs.Release.{files_of}
use Rattle.history_store.specs.declared.refusal.Refusal.{Refusal}
use Rattle.history_store.specs.declared.refusal.Refusal.TheVariants as store
use Rattle.history_store.specs.Prepared.{IsForLater, scope_of}
use Rattle.question_model.specs.Questions.{Question, Dates, Receipt, Added, ForIds}
use Rattle.line_commands.specs.Commands.{Command, Ask, At, Import, Check, Pin, Unpin, Merge, Step, Publish, Abandon, Trim, Status}
use Rattle.line_commands.specs.Requests.{Asks}
use Rattle.line_server.specs.declared.refusal.LineRefusal.{LineRefusal}
use Rattle.line_server.specs.declared.refusal.LineRefusal.TheVariants as refusals
use Rattle.line_server.specs.Sources.{Releases}
use Rattle.line_server.specs.ReplyValue.{Answer}
use Rattle.line_server.specs.Replies.{Server, Replies, Lacks, IsOutcome, IsStoreRefusal, IsRefusalAt, IsClosed, IsLacking, imports_seen}
use Rattle.line_server.specs.Laws.{GivesNoMembers, OnlyMembersNeedLater, OnlyWordsAreNotKept}
use Rattle.line_server.specs.declared.held.Held.{Held}
use Rattle.line_server.specs.declared.held.Held.TheVariants as holds
use Rattle.line_server.specs.StateValue.{reason_of}
use Rattle.line_server.proofs.HeldBack.{change_of, not_both}
use Rattle.line_server.proofs.Pinned.{Settles, asked_outcome}
use Rattle.line_server.proofs.Lacking.{one_lacks}

abbrev is_later : Refusal → Bool
is_later store.LaterVersion = true
is_later _ = false

later_lack : (lack : Refusal) → is_later lack ≡ true → lack ≡ store.LaterVersion
later_lack store.LaterVersion e = refl
later_lack lack e = absurd (false≢true e)

abbrev comes_later : Result Answer LineRefusal → Bool
comes_later (Err (refusals.Store refusal)) = is_later refusal
comes_later _ = false

held_for_no_layout : (held : Held) → comes_later (Err (reason_of held)) ≡ false
held_for_no_layout holds.Nothing = refl
held_for_no_layout holds.Confirming = refl
held_for_no_layout holds.Changing = refl

module _ {D : Type 0} (honest : Type 0) (releases : Releases) (none : GivesNoMembers releases) (old new : Server D) where
  asked_rightly : (scope : Scope) (name : List ℕ) (release : Release) → releases scope name ≡ Some (files_of release) → IsForLater scope release → ⊥
  asked_rightly scopes.Basic name release has later = none name release has later
  asked_rightly scopes.Whole name release has later = later

  closed_never : IsClosed store.LaterVersion old new → ⊥
  closed_never c = false≢true (sym (ap is_later c.0))

  listed_never : IsClosed store.LaterVersion old new ⊎ IsLacking store.LaterVersion old new → ⊥
  listed_never (inl c) = closed_never c
  listed_never (inr l) = false≢true (sym (ap is_later l.0))

  asked_never : (seen : ℕ) (question : Question) → IsRefusalAt honest seen question store.LaterVersion old new → ⊥
  asked_never seen (Receipt number) r = closed_never r.1
  asked_never seen (Added number kind after limit) r = r.1.cause
  asked_never seen (ForIds ids) r = listed_never r
  asked_never seen Dates r = listed_never r
  asked_never seen question r = r.cause

  refused_never : (session : ℕ) (command : Command) → IsStoreRefusal honest releases session command store.LaterVersion old new → ⊥
  refused_never session (Ask question) r = asked_never (imports_seen old session) question r
  refused_never session (At number question) r = asked_never number question r.1
  refused_never session (Import name) r = asked_rightly (scope_of old.store.catalog) name r.release r.has r.at_all.0.1.1
  refused_never session (Check name) r = asked_rightly (scope_of old.store.catalog) name r.release r.has r.at_all.0.1.1
  refused_never session (Pin number) r = r
  refused_never session Unpin r = r
  refused_never session Merge r = r.0.0.1.1
  refused_never session (Step rows) r = r.0.0.1
  refused_never session Publish r = r.0.0.1
  refused_never session Abandon r = r.0.0.1
  refused_never session Trim r = r.0.0
  refused_never session Status r = closed_never r

  -- so no command that is performed is refused with 14
  performed_never : (session : ℕ) (command : Command) (outcome : Result Answer LineRefusal) → IsOutcome honest releases session command outcome old new → outcome ≢ Err (refusals.Store store.LaterVersion)
  performed_never session command outcome out e = refused_never session command (subst (λ (o : Result Answer LineRefusal). IsOutcome honest releases session command o old new) e out)

pub only_members_need_later : (D : Type 0) (view : D → DiskView) → OnlyMembersNeedLater D view
only_members_need_later D view releases line outcome old new none replies = (λ e. needed replies e, λ (session, command, asks, later). refused session command later (asked_outcome honest releases old new line session command outcome asks replies)) where
  honest : Type 0
  honest = (view old.store.disk).is_honest

  needed : Replies honest releases line outcome old new → outcome ≡ Err (refusals.Store store.LaterVersion) → (session : ℕ) × (command : Command) × Asks line session command × Lacks command old.store store.LaterVersion
  needed (inl (session, command, asks, inl h)) e = absurd (false≢true (sym (held_for_no_layout old.held) ∙ ap comes_later (sym h.refused ∙ e)))
  needed (inl (session, command, asks, inr (inl h))) e = (session, command, asks, subst (λ (lack : Refusal). Lacks command old.store lack) (later_lack h.lack (ap comes_later (sym h.refused ∙ e))) h.lacks)
  needed (inl (session, command, asks, inr (inr h))) e = absurd (performed_never honest releases none old new session command outcome h.comes_out e)
  needed (inr r) e = absurd (false≢true (ap comes_later (sym r.2 ∙ e)))

  refused : (session : ℕ) (command : Command) → Lacks command old.store store.LaterVersion → Settles honest releases session command outcome old new → outcome ≡ Err (refusals.Store store.LaterVersion)
  refused session command later (inl h) = absurd (not_both command old.store (change_of old.held command h.held_back) (store.LaterVersion, later))
  refused session command later (inr (inl h)) = h.refused ∙ ap (λ (lack : Refusal). Err (refusals.Store lack)) (one_lacks command old.store h.lack store.LaterVersion h.lacks later)
  refused session command later (inr (inr h)) = absurd (h.has_all (store.LaterVersion, later))

-- ---- words

abbrev is_unkept : Refusal → Bool
is_unkept store.NotKept = true
is_unkept _ = false

unkept_lack : (lack : Refusal) → is_unkept lack ≡ true → lack ≡ store.NotKept
unkept_lack store.NotKept e = refl
unkept_lack lack e = absurd (false≢true e)

abbrev comes_unkept : Result Answer LineRefusal → Bool
comes_unkept (Err (refusals.Store refusal)) = is_unkept refusal
comes_unkept _ = false

held_for_no_words : (held : Held) → comes_unkept (Err (reason_of held)) ≡ false
held_for_no_words holds.Nothing = refl
held_for_no_words holds.Confirming = refl
held_for_no_words holds.Changing = refl

module _ {D : Type 0} (honest : Type 0) (releases : Releases) (old new : Server D) where
  unkept_closed : IsClosed store.NotKept old new → ⊥
  unkept_closed c = false≢true (sym (ap is_unkept c.0))

  unkept_listed : IsClosed store.NotKept old new ⊎ IsLacking store.NotKept old new → ⊥
  unkept_listed (inl c) = unkept_closed c
  unkept_listed (inr l) = false≢true (sym (ap is_unkept l.0))

  unkept_asked : (seen : ℕ) (question : Question) → IsRefusalAt honest seen question store.NotKept old new → ⊥
  unkept_asked seen (Receipt number) r = unkept_closed r.1
  unkept_asked seen (Added number kind after limit) r = r.1.cause
  unkept_asked seen (ForIds ids) r = unkept_listed r
  unkept_asked seen Dates r = unkept_listed r
  unkept_asked seen question r = r.cause

  unkept_refused : (session : ℕ) (command : Command) → IsStoreRefusal honest releases session command store.NotKept old new → ⊥
  unkept_refused session (Ask question) r = unkept_asked (imports_seen old session) question r
  unkept_refused session (At number question) r = unkept_asked number question r.1
  unkept_refused session (Import name) r = r.at_all.0.1
  unkept_refused session (Check name) r = r.at_all.0.1
  unkept_refused session (Pin number) r = r
  unkept_refused session Unpin r = r
  unkept_refused session Merge r = r.0.0.1.1
  unkept_refused session (Step rows) r = r.0.0.1
  unkept_refused session Publish r = r.0.0.1
  unkept_refused session Abandon r = r.0.0.1
  unkept_refused session Trim r = r.0.0
  unkept_refused session Status r = unkept_closed r

  unkept_performed : (session : ℕ) (command : Command) (outcome : Result Answer LineRefusal) → IsOutcome honest releases session command outcome old new → outcome ≢ Err (refusals.Store store.NotKept)
  unkept_performed session command outcome out e = unkept_refused session command (subst (λ (o : Result Answer LineRefusal). IsOutcome honest releases session command o old new) e out)

pub only_words_are_not_kept : (D : Type 0) (view : D → DiskView) → OnlyWordsAreNotKept D view
only_words_are_not_kept D view releases line outcome old new replies = (λ e. wanted replies e, λ (session, command, asks, lacks). refused session command lacks (asked_outcome honest releases old new line session command outcome asks replies)) where
  honest : Type 0
  honest = (view old.store.disk).is_honest

  wanted : Replies honest releases line outcome old new → outcome ≡ Err (refusals.Store store.NotKept) → (session : ℕ) × (command : Command) × Asks line session command × Lacks command old.store store.NotKept
  wanted (inl (session, command, asks, inl h)) e = absurd (false≢true (sym (held_for_no_words old.held) ∙ ap comes_unkept (sym h.refused ∙ e)))
  wanted (inl (session, command, asks, inr (inl h))) e = (session, command, asks, subst (λ (lack : Refusal). Lacks command old.store lack) (unkept_lack h.lack (ap comes_unkept (sym h.refused ∙ e))) h.lacks)
  wanted (inl (session, command, asks, inr (inr h))) e = absurd (unkept_performed honest releases old new session command outcome h.comes_out e)
  wanted (inr r) e = absurd (false≢true (ap comes_unkept (sym r.2 ∙ e)))

  refused : (session : ℕ) (command : Command) → Lacks command old.store store.NotKept → Settles honest releases session command outcome old new → outcome ≡ Err (refusals.Store store.NotKept)
  refused session command lacks (inl h) = absurd (not_both command old.store (change_of old.held command h.held_back) (store.NotKept, lacks))
  refused session command lacks (inr (inl h)) = h.refused ∙ ap (λ (lack : Refusal). Err (refusals.Store lack)) (one_lacks command old.store h.lack store.NotKept h.lacks lacks)
  refused session command lacks (inr (inr h)) = absurd (h.has_all (store.NotKept, lacks))
