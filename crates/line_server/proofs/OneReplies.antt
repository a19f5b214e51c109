-- A line has one reply.
use Rattle.std.proofs.Common.{◌≡◌, ℕ, ◌≤◌, ◌<◌, Bool, true, false, nat_le, Option, Some, None, List, [], ◌∷◌, Result, Ok, Err, refl, sym, ap, subst, ◌∙◌, inl, inr, ◌⊎◌, arith}
use Rattle.std.specs.Prelude.{decimal, slice_set, if◌then◌else◌, length}
use Rattle.std.proofs.lemmas.Bool.{false≢true, cond-true, cond-false, le-leb, lt-leb, cases_lt}
use Rattle.std.proofs.lemmas.Option.{none-some, same_Some}
use Rattle.disk_model.specs.View.{DiskView}
use Rattle.history_model.specs.History.{History, rows_at}
use Rattle.history_model.specs.Brought.{brought_by}
use Rattle.history_model.specs.declared.receipt.Receipt.{Receipt}
use Rattle.history_store.specs.declared.refusal.Refusal.{Refusal}
use Rattle.history_store.specs.declared.refusal.Refusal.TheVariants as store
use Rattle.history_store.specs.Catalog.{Catalog}
use Rattle.history_store.specs.StoreValue.{StoreValue}
use Rattle.history_store.specs.Answers.{IsImportOf}
use Rattle.history_store.specs.Checking.{IsCheckingOf}
use Rattle.history_store.specs.MergeAnswers.{IsBeginningOf}
use Rattle.line_commands.specs.declared.unread.Unread.{Unread}
use Rattle.question_model.specs.Questions.{Question, Receipt as AskReceipt, Added}
use Rattle.line_commands.specs.Commands.{Command, Ask, At, Import, Check, Pin, Unpin, Merge, Step, Publish, Abandon, Trim, Status}
use Rattle.line_commands.proofs.Readings.{one_reading, asked_is_read, one_refusal}
use Rattle.line_server.specs.declared.refusal.LineRefusal.{LineRefusal}
use Rattle.line_server.specs.declared.refusal.LineRefusal.TheVariants as refusals
use Rattle.line_server.specs.Pins.{pin_of}
use Rattle.line_server.specs.Sources.{Releases}
use Rattle.import_check.specs.declared.release.Release.{Release}
use Rattle.import_check.specs.Release.{files_of}
use Rattle.line_server.specs.ReplyValue.{Answer, Done}
use Rattle.line_server.specs.declared.held.Held.{Held}
use Rattle.line_server.specs.StateValue.{HoldsBack, reason_of, met_after}
use Rattle.line_server.specs.Replies.{Server, Same, SameStore, IsChecked, import_words, imports_seen, left_of, IsAnswer, IsImported, IsClosed, IsStoreRefusal, IsOutcome, NamesRelease, Replies}
use Rattle.history_store.specs.Checking.{HasFailed}
use Rattle.history_store.specs.Prepared.{scope_of}
use Rattle.line_server.specs.Laws.{OneReply, AreAlike, IsSure, without_sums}
use Rattle.store_life.proofs.AlikeReleases.{import_alike}
use Rattle.line_server.proofs.AskedOf.{OutcomeAt, outcome_at}
use Rattle.line_server.proofs.AddedRows.{added_out, one_added}
use Rattle.line_server.proofs.Finding.{AsksFound, same_from, found_out, one_way}
use Rattle.line_server.proofs.HeldBack.{change_of, not_both}
use Rattle.line_server.proofs.Lacking.{lacks_too, one_lacks}
use Rattle.line_server.proofs.Pinned.{Settles}
use Rattle.line_server.proofs.Received.{receipt_out, one_receipt}
use Rattle.store_life.proofs.OneImports.{one_import}
use Rattle.line_server.proofs.ListedAlike.{bare_length, listed_as, imported_alike}
use Rattle.line_server.proofs.MergesAlike.{refused, of_store, stepping, publishing, abandoning, catalog_after, Fares, step_fares, no_step_fares, publish_fares, no_publish_fares, abandon_fares, no_abandon_fares, trim_fares, no_trim_fares, one_beginning_alike}

abbrev is_fault : Refusal → Bool
is_fault store.DiskFault = true
is_fault _ = false

-- like `AreAlike`, whether damage was met or not
pub record AreLike {D : Type 0} (a b : Server D) : Type 0 where
  pub pins : b.pins ≡ a.pins
  pub history : b.store.history ≡ a.store.history
  pub catalog : without_sums b.store.catalog ≡ without_sums a.store.catalog
  pub needs_reopen : b.store.needs_reopen ≡ a.store.needs_reopen

-- ---- how a command that imports nothing, asks no question and begins no merge comes out, as a function

-- a session's command, at pins and a store
abbrev fate : Command → ℕ → List (Option ℕ) → History → Catalog → Bool → Result Answer LineRefusal
fate (Pin None) session pins h catalog reopen = Ok (Done (decimal h.imports ∷ []))
fate (Pin (Some number)) session pins h catalog reopen = if nat_le number h.imports then Ok (Done (decimal number ∷ [])) else Err refusals.PinRange
fate Unpin session pins h catalog reopen = Ok (Done [])
fate Status session pins h catalog reopen = of_store reopen (Ok (Done (decimal h.imports ∷ decimal (length h.rows) ∷ decimal (length catalog.entries) ∷ left_of catalog.merge ∷ [])))
fate (Step rows) session pins h catalog reopen = of_store reopen (stepping rows catalog.merge)
fate Publish session pins h catalog reopen = of_store reopen (publishing catalog.epoch catalog.merge)
fate Abandon session pins h catalog reopen = of_store reopen (abandoning catalog.merge)
fate Trim session pins h catalog reopen = of_store reopen (Ok (Done []))
fate command session pins h catalog reopen = Ok (Done [])

abbrev pins_after : Command → ℕ → List (Option ℕ) → History → List (Option ℕ)
pins_after (Pin None) session pins h = slice_set pins session (Some h.imports)
pins_after (Pin (Some number)) session pins h = if nat_le number h.imports then slice_set pins session (Some number) else pins
pins_after Unpin session pins h = slice_set pins session None
pins_after command session pins h = pins

record Told {D : Type 0} (command : Command) (session : ℕ) (outcome : Result Answer LineRefusal) (old new : Server D) : Type 0 where
  is : outcome ≡ fate command session old.pins old.store.history (without_sums old.store.catalog) old.store.needs_reopen
  pins : new.pins ≡ pins_after command session old.pins old.store.history
  history : new.store.history ≡ old.store.history
  catalog : without_sums new.store.catalog ≡ catalog_after outcome command (without_sums old.store.catalog)
  needs_reopen : new.store.needs_reopen ≡ old.store.needs_reopen

-- two servers that are alike
one_told : {D : Type 0} (command : Command) (session : ℕ) (x y : Result Answer LineRefusal) (a b after next : Server D) → AreLike a b → Told command session x a after → Told command session y b next → (x ≡ y) × AreLike after next
one_told command session x y a b after next same t u =
    let f : List (Option ℕ) → History → Catalog → Bool → Result Answer LineRefusal = fate command session in
    let listed : Catalog = without_sums a.store.catalog in
    let one : x ≡ y = t.is
    ∙ ap (λ (p : List (Option ℕ)). f p a.store.history listed a.store.needs_reopen) (sym same.pins)
    ∙ ap (λ (h : History). f b.pins h listed a.store.needs_reopen) (sym same.history)
    ∙ ap (λ (s : Catalog). f b.pins b.store.history s a.store.needs_reopen) (sym same.catalog)
    ∙ ap (λ (r : Bool). f b.pins b.store.history (without_sums b.store.catalog) r) (sym same.needs_reopen)
    ∙ sym u.is in (
      one,
      record {
        pins = u.pins ∙ ap (λ (p : List (Option ℕ)). pins_after command session p b.store.history) same.pins ∙ ap (λ (h : History). pins_after command session a.pins h) same.history ∙ sym t.pins;
        history = u.history ∙ same.history ∙ sym t.history;
        catalog = u.catalog ∙ ap (catalog_after y command) same.catalog ∙ ap (λ (o : Result Answer LineRefusal). catalog_after o command listed) (sym one) ∙ sym t.catalog;
        needs_reopen = u.needs_reopen ∙ same.needs_reopen ∙ sym t.needs_reopen;
      },
    )

reopened : {D : Type 0} (outcome : Result Answer LineRefusal) (old : Server D) → old.store.needs_reopen ≡ true → Err (refusals.Store store.ReopenNeeded) ≡ of_store old.store.needs_reopen outcome
reopened outcome old e = sym (ap (λ (b : Bool). of_store b outcome) e)

open_still : {D : Type 0} (outcome : Result Answer LineRefusal) (old : Server D) → old.store.needs_reopen ≡ false → outcome ≡ of_store old.store.needs_reopen outcome
open_still outcome old e = sym (ap (λ (b : Bool). of_store b outcome) e)

module _ {D : Type 0} (old new : Server D) (o : Result Answer LineRefusal) where
  closed_told : (e : Refusal) → IsClosed e old new → (Err (refusals.Store e) ≡ of_store old.store.needs_reopen o) × Same old new
  closed_told e c = (ap (λ (r : Refusal). Err (refusals.Store r)) c.0 ∙ reopened o old c.1, same_from old new c.2)

-- no import, no question, and no merge begins
abbrev IsFated : Command → Type 0
IsFated (Import name) = ⊥
IsFated (Check name) = ⊥
IsFated Merge = ⊥
IsFated (Ask question) = ⊥
IsFated (At number question) = ⊥
IsFated _ = Unit {0}

module _ {D : Type 0} (honest : Type 0) (up : honest) (releases : Releases) (session : ℕ) (old new : Server D) where
  abbrev here : Command → Result Answer LineRefusal
  here c = fate c session old.pins old.store.history (without_sums old.store.catalog) old.store.needs_reopen

  told_pair : (c : Command) (x : Result Answer LineRefusal) → old.pins ≡ pins_after c session old.pins old.store.history → without_sums old.store.catalog ≡ catalog_after x c (without_sums old.store.catalog)
      → (x ≡ here c) × Same old new → Told c session x old new
  told_pair c x pins catalog p = record { is = p.0; pins = p.1.pins ∙ pins; history = p.1.store.history; catalog = ap without_sums p.1.store.catalog ∙ catalog; needs_reopen = p.1.store.needs_reopen }

  -- the store took a step of a merge, published or gave it up, or trimmed
  told_fares : (c : Command) (x o : Result Answer LineRefusal) (catalog : Catalog) → old.pins ≡ pins_after c session old.pins old.store.history → of_store old.store.needs_reopen o ≡ here c → catalog ≡ catalog_after x c (without_sums old.store.catalog)
      → new.pins ≡ old.pins → Fares old.store new.store x o catalog → Told c session x old new
  told_fares c x o catalog pins is after stay f = record { is = f.is ∙ is; pins = stay ∙ pins; history = f.history; catalog = f.catalog_is ∙ after; needs_reopen = f.needs_reopen }

  told_as : (c : Command) (x y : Answer) → x ≡ y → Told c session (Ok y) old new → Told c session (Ok x) old new
  told_as c x y e t = subst (λ (z : Answer). Told c session (Ok z) old new) (sym e) t

  pin_told : (n : ℕ) (x : Answer) → IsAnswer honest releases session (Pin (Some n)) x old new → Told (Pin (Some n)) session (Ok x) old new
  pin_told n x a =
      let within = le-leb n old.store.history.imports a.0 in
      record {
        is = ap Ok a.2 ∙ sym (cond-true _ _ _ within);
        pins = ap (λ d. d.pins) a.1 ∙ sym (cond-true _ _ _ within);
        history = ap (λ d. d.store.history) a.1;
        catalog = ap (λ d. without_sums d.store.catalog) a.1;
        needs_reopen = ap (λ d. d.store.needs_reopen) a.1;
      }

  range_told : (n : ℕ) → old.store.history.imports < n → new ≡ old → Told (Pin (Some n)) session (Err refusals.PinRange) old new
  range_told n lt same =
      let above = lt-leb n old.store.history.imports lt in
      record {
        is = sym (cond-false _ _ _ above);
        pins = ap (λ d. d.pins) same ∙ sym (cond-false _ _ _ above);
        history = ap (λ d. d.store.history) same;
        catalog = ap (λ d. without_sums d.store.catalog) same;
        needs_reopen = ap (λ d. d.store.needs_reopen) same;
      }

  ok_told : (c : Command) (x : Answer) → IsFated c → IsAnswer honest releases session c x old new → Told c session (Ok x) old new
  ok_told (Import name) x f h = absurd f
  ok_told (Check name) x f h = absurd f
  ok_told Merge x f h = absurd f
  ok_told (Ask question) x f h = absurd f
  ok_told (At number question) x f h = absurd f
  ok_told (Step rows) x f h = told_as (Step rows) x _ h.3 (told_fares (Step rows) _ _ _ refl refl refl h.2 (step_fares old.store new.store rows h.0 h.1))
  ok_told Publish x f h = told_as Publish x _ h.3 (told_fares Publish _ _ _ refl refl refl h.2 (publish_fares old.store new.store h.0 h.1))
  ok_told Abandon x f h = told_as Abandon x _ h.2 (told_fares Abandon _ _ _ refl refl refl h.1 (abandon_fares old.store new.store h.0))
  ok_told Trim x f h = told_as Trim x _ h.3 (told_fares Trim _ _ _ refl refl refl h.2 (trim_fares old.store new.store h.0 h.1))
  ok_told (Pin None) x f h = record { is = ap Ok h.1; pins = ap (λ d. d.pins) h.0; history = ap (λ d. d.store.history) h.0; catalog = ap (λ d. without_sums d.store.catalog) h.0; needs_reopen = ap (λ d. d.store.needs_reopen) h.0 }
  ok_told (Pin (Some n)) x f h = pin_told n x h
  ok_told Unpin x f h = record { is = ap Ok h.1; pins = ap (λ d. d.pins) h.0; history = ap (λ d. d.store.history) h.0; catalog = ap (λ d. without_sums d.store.catalog) h.0; needs_reopen = ap (λ d. d.store.needs_reopen) h.0 }
  ok_told Status x f h =
      let said : ℕ → Result Answer LineRefusal = λ segments. Ok (Done (decimal old.store.history.imports ∷ decimal (length old.store.history.rows) ∷ decimal segments ∷ left_of old.store.catalog.merge ∷ [])) in
      told_pair Status (Ok x) refl refl (ap Ok h.2 ∙ ap said (sym (bare_length old.store.catalog.entries)) ∙ open_still _ old h.0, same_from old new h.1)

  store_told : (c : Command) (e : Refusal) → IsFated c → IsSure (refused e) → IsStoreRefusal honest releases session c e old new → Told c session (refused e) old new
  store_told (Import name) e f u h = absurd f
  store_told (Check name) e f u h = absurd f
  store_told Merge e f u h = absurd f
  store_told (Ask question) e f u h = absurd f
  store_told (At number question) e f u h = absurd f
  store_told (Step rows) e f u h = told_fares (Step rows) _ _ _ refl refl refl h.2 (no_step_fares old.store new.store rows e u (h.1 up) h.0)
  store_told Publish e f u h = told_fares Publish _ _ _ refl refl refl h.1 (no_publish_fares old.store new.store e u h.0)
  store_told Abandon e f u h = told_fares Abandon _ _ _ refl refl refl h.1 (no_abandon_fares old.store new.store e u h.0)
  store_told Trim e f u h = told_fares Trim _ _ _ refl refl refl h.1 (no_trim_fares old.store new.store e u h.0)
  store_told (Pin number) e f u h = absurd h
  store_told Unpin e f u h = absurd h
  store_told Status e f u h = told_pair Status (refused e) refl refl (closed_told old new _ e h)

  unnamed : (name : List ℕ) (c : Command) → IsFated c → NamesRelease c name → ⊥
  unnamed name (Import other) f n = f
  unnamed name (Check other) f n = f
  unnamed name c f n = n

  told : (c : Command) (x : Result Answer LineRefusal) → IsFated c → IsSure x → IsOutcome honest releases session c x old new → Told c session x old new
  told c (Ok x) f u h = ok_told c x f h
  told c (Err (refusals.Unread reason)) f u h = absurd h
  told (Pin (Some n)) (Err refusals.PinRange) f u h = range_told n h.0 h.1
  told (Ask question) (Err refusals.PinRange) f u h = absurd f
  told (At number question) (Err refusals.PinRange) f u h = absurd f
  told c (Err refusals.PinRange) f u h = absurd h.0
  told c (Err refusals.NoFolder) f u h = absurd (unnamed h.0 c f h.1)
  told c (Err (refusals.Store e)) f u h = store_told c e f u h

-- ---- the beginning of a merge

abbrev said_left : Result ℕ Refusal → Result Answer LineRefusal
said_left (Ok left) = Ok (Done (decimal left ∷ []))
said_left (Err e) = refused e

record Begins {D : Type 0} (x : Result Answer LineRefusal) (old new : Server D) : Type 0 where
  result : Result ℕ Refusal
  begins : IsBeginningOf result old.store new.store
  is : x ≡ said_left result
  pins : new.pins ≡ old.pins

merge_told : {D : Type 0} (honest : Type 0) (releases : Releases) (session : ℕ) (x : Result Answer LineRefusal) (old new : Server D) → IsOutcome honest releases session Merge x old new → Begins x old new
merge_told honest releases session (Ok x) old new h = record { result = Ok h.0; begins = h.1; is = ap Ok h.3; pins = h.2 }
merge_told honest releases session (Err (refusals.Unread reason)) old new h = absurd h
merge_told honest releases session (Err refusals.PinRange) old new h = absurd h.0
merge_told honest releases session (Err refusals.NoFolder) old new h = absurd h.1
merge_told honest releases session (Err (refusals.Store e)) old new h = record { result = Err e; begins = h.0; is = refl; pins = h.1 }

one_merge : {D : Type 0} (x y : Result Answer LineRefusal) (a b after next : Server D) → AreLike a b → Begins x a after → Begins y b next → (x ≡ y) × AreLike after next
one_merge x y a b after next same h k =
    let one = one_beginning_alike a.store b.store after.store next.store same.history same.catalog same.needs_reopen h.result k.result h.begins k.begins in
    (h.is ∙ ap said_left one.0 ∙ sym k.is, record { pins = k.pins ∙ same.pins ∙ sym h.pins; history = one.1.history; catalog = one.1.catalog; needs_reopen = one.1.needs_reopen })

-- ---- imports

abbrev pub said : Result Receipt Refusal → Result Answer LineRefusal
said (Ok receipt) = Ok (Done (import_words receipt))
said (Err e) = Err (refusals.Store e)

then_like : {D : Type 0} (a b after next : Server D) → AreLike a b → Same a after → Same b next → AreLike after next
then_like a b after next same h k = record {
  pins = k.pins ∙ same.pins ∙ sym h.pins;
  history = k.store.history ∙ same.history ∙ sym h.store.history;
  catalog = ap without_sums k.store.catalog ∙ same.catalog ∙ ap without_sums (sym h.store.catalog);
  needs_reopen = k.store.needs_reopen ∙ same.needs_reopen ∙ sym h.store.needs_reopen;
}

-- an import without a release, and one with a release
pub record NoRelease {D : Type 0} (releases : Releases) (name : List ℕ) (x : Result Answer LineRefusal) (old new : Server D) : Type 0 where
  pub is : x ≡ Err refusals.NoFolder
  pub none : releases (scope_of old.store.catalog) name ≡ None
  pub stays : Same old new

pub record WithRelease {D : Type 0} (honest : Type 0) (releases : Releases) (name : List ℕ) (x : Result Answer LineRefusal) (old new : Server D) : Type 0 where
  pub result : Result Receipt Refusal
  pub sure : HasFailed result → ⊥
  pub imported : IsImported honest releases name result old new
  pub is : x ≡ said result

-- a check with a release
pub record WithCheck {D : Type 0} (honest : Type 0) (releases : Releases) (name : List ℕ) (x : Result Answer LineRefusal) (old new : Server D) : Type 0 where
  pub result : Result Receipt Refusal
  pub sure : HasFailed result → ⊥
  pub checked : IsChecked honest releases name result old new
  pub is : x ≡ said result

named : {D : Type 0} (releases : Releases) (name : List ℕ) (old new : Server D) → (other : List ℕ) × (other ≡ name) × (releases (scope_of old.store.catalog) other ≡ None) × (new ≡ old) → NoRelease releases name (Err refusals.NoFolder) old new
named releases name old new h =
    record { is = refl; none = ap (releases (scope_of old.store.catalog)) (sym h.1) ∙ h.2; stays = same_from old new h.3 }

-- where the catalogs are alike, a source is asked for the same
pub same_release : {D : Type 0} (releases : Releases) (name : List ℕ) (a b : Server D) → without_sums b.store.catalog ≡ without_sums a.store.catalog → releases (scope_of a.store.catalog) name ≡ releases (scope_of b.store.catalog) name
same_release releases name a b same = ap (λ (c : Catalog). releases (scope_of c) name) (sym same)

pub import_told : {D : Type 0} (honest : Type 0) (releases : Releases) (session : ℕ) (name : List ℕ) (x : Result Answer LineRefusal) (old new : Server D) → IsSure x → IsOutcome honest releases session (Import name) x old new
    → NoRelease releases name x old new ⊎ WithRelease honest releases name x old new
import_told honest releases session name (Ok x) old new u h = inr (record { result = Ok h.0; sure = λ failed. failed; imported = h.1; is = ap Ok h.2 })
import_told honest releases session name (Err refusals.NoFolder) old new u h = inl (named releases name old new h)
import_told honest releases session name (Err refusals.PinRange) old new u h = absurd h.0
import_told honest releases session name (Err (refusals.Unread reason)) old new u h = absurd h
import_told honest releases session name (Err (refusals.Store store.OutOfMemory)) old new u h = absurd u
import_told honest releases session name (Err (refusals.Store store.DiskFault)) old new u h = absurd u
import_told honest releases session name (Err (refusals.Store e)) old new u h = inr (record { result = Err e; sure = λ failed. failed; imported = h; is = refl })

module _ {D : Type 0} (releases : Releases) (a b after next : Server D) (honest also : Type 0) (up : honest) (so : also) (same : AreLike a b) where
  one_imported : (name : List ℕ) (x y : Result Answer LineRefusal)
      → NoRelease releases name x a after ⊎ WithRelease honest releases name x a after → NoRelease releases name y b next ⊎ WithRelease also releases name y b next → (x ≡ y) × AreLike after next
  one_imported name x y (inl h) (inl k) = (h.is ∙ sym k.is, then_like a b after next same h.stays k.stays)
  one_imported name x y (inl h) (inr k) = absurd (none-some _ (sym h.none ∙ same_release releases name a b same.catalog ∙ k.imported.has))
  one_imported name x y (inr h) (inl k) = absurd (none-some _ (sym k.none ∙ sym (same_release releases name a b same.catalog) ∙ h.imported.has))
  one_imported name x y (inr h) (inr k) =
      let files : files_of k.imported.release ≡ files_of h.imported.release = same_Some _ _ (sym k.imported.has ∙ sym (same_release releases name a b same.catalog) ∙ h.imported.has) in
      let other = import_alike k.imported.release h.imported.release files k.result b.store next.store k.sure (k.imported.imported so) in
      let listed = imported_alike a.store b.store next.store same.catalog h.imported.release k.result other in
      let both = one_import D h.imported.release h.result k.result a.store (listed_as a.store b.store) after.store listed.0 same.history refl same.needs_reopen (h.imported.imported up) listed.1 h.sure k.sure in (
        h.is ∙ ap said both.0 ∙ sym k.is,
        record {
          pins = k.imported.pins ∙ same.pins ∙ sym h.imported.pins;
          history = sym listed.2 ∙ both.1;
          catalog = sym listed.3 ∙ ap without_sums both.2;
          needs_reopen = sym listed.4 ∙ both.3;
        },
      )

-- ---- checks

pub check_told : {D : Type 0} (honest : Type 0) (releases : Releases) (session : ℕ) (name : List ℕ) (x : Result Answer LineRefusal) (old new : Server D) → IsSure x → IsOutcome honest releases session (Check name) x old new
    → NoRelease releases name x old new ⊎ WithCheck honest releases name x old new
check_told honest releases session name (Ok x) old new u h = inr (record { result = Ok h.0; sure = λ failed. failed; checked = h.1; is = ap Ok h.2 })
check_told honest releases session name (Err refusals.NoFolder) old new u h = inl (named releases name old new h)
check_told honest releases session name (Err refusals.PinRange) old new u h = absurd h.0
check_told honest releases session name (Err (refusals.Unread reason)) old new u h = absurd h
check_told honest releases session name (Err (refusals.Store store.OutOfMemory)) old new u h = absurd u
check_told honest releases session name (Err (refusals.Store store.DiskFault)) old new u h = absurd u
check_told honest releases session name (Err (refusals.Store e)) old new u h = inr (record { result = Err e; sure = λ failed. failed; checked = h; is = refl })

module _ {D : Type 0} (old new : StoreValue D) (release : Release) where
  -- an import that answers as the check does
  pub foreseen : (result : Result Receipt Refusal) → (HasFailed result → ⊥) → IsCheckingOf result old new release → (after : StoreValue D) × IsImportOf result old after release
  foreseen (Ok receipt) sure c = (record old { history = c.0.0; catalog = c.0.1 }, (c.0.2, c.1.open_before, c.1.open_before))
  foreseen (Err store.OutOfMemory) sure c = absurd (sure tt)
  foreseen (Err store.DiskFault) sure c = absurd (sure tt)
  foreseen (Err e) sure c = (new, c)

  pub stays_checked : (result : Result Receipt Refusal) → (HasFailed result → ⊥) → IsCheckingOf result old new release → SameStore old new
  stays_checked (Ok receipt) sure c = record { history = c.1.history; catalog = c.1.catalog; needs_reopen = c.1.open_still ∙ sym c.1.open_before }
  stays_checked (Err store.DiskFault) sure c = absurd (sure tt)
  stays_checked (Err e) sure c = record { history = c.1.history; catalog = c.1.catalog; needs_reopen = c.1.still (λ is. false≢true (ap is_fault is)) }

module _ {D : Type 0} (releases : Releases) (a b after next : Server D) (honest also : Type 0) (up : honest) (so : also) (same : AreLike a b) where
  one_checked : (name : List ℕ) (x y : Result Answer LineRefusal)
      → NoRelease releases name x a after ⊎ WithCheck honest releases name x a after → NoRelease releases name y b next ⊎ WithCheck also releases name y b next → (x ≡ y) × AreLike after next
  one_checked name x y (inl h) (inl k) = (h.is ∙ sym k.is, then_like a b after next same h.stays k.stays)
  one_checked name x y (inl h) (inr k) = absurd (none-some _ (sym h.none ∙ same_release releases name a b same.catalog ∙ k.checked.has))
  one_checked name x y (inr h) (inl k) = absurd (none-some _ (sym k.none ∙ sym (same_release releases name a b same.catalog) ∙ h.checked.has))
  one_checked name x y (inr h) (inr k) =
      let files : files_of k.checked.release ≡ files_of h.checked.release = same_Some _ _ (sym k.checked.has ∙ sym (same_release releases name a b same.catalog) ∙ h.checked.has) in
      let f = foreseen a.store after.store h.checked.release h.result h.sure (h.checked.checked up) in
      let g = foreseen b.store next.store k.checked.release k.result k.sure (k.checked.checked so) in
      let other = import_alike k.checked.release h.checked.release files k.result b.store g.0 k.sure g.1 in
      let listed = imported_alike a.store b.store g.0 same.catalog h.checked.release k.result other in
      let both = one_import D h.checked.release h.result k.result a.store (listed_as a.store b.store) f.0 listed.0 same.history refl same.needs_reopen f.1 listed.1 h.sure k.sure in (
        h.is ∙ ap said both.0 ∙ sym k.is,
        then_like a b after next same
            (record { pins = h.checked.pins; store = stays_checked a.store after.store h.checked.release h.result h.sure (h.checked.checked up) })
            (record { pins = k.checked.pins; store = stays_checked b.store next.store k.checked.release k.result k.sure (k.checked.checked so) }),
      )

-- ---- questions

module _ {D : Type 0} (a b after next : Server D) (honest also : Type 0) (up : honest) (so : also) (same : AreLike a b) where
  one_receipt_told : (number m n : ℕ) (x y : Result Answer LineRefusal) → m ≡ n → OutcomeAt honest m (AskReceipt number) x a after → OutcomeAt also n (AskReceipt number) y b next → (x ≡ y) × AreLike after next
  one_receipt_told number m n x y seen h k =
      let one = receipt_out honest m number x a after h in
      let two = receipt_out also n number y b next k in (
        one_receipt m n number x y a b seen (sym same.needs_reopen) (λ within. ap (λ (g : History). brought_by number g.rows) (sym same.history)) one.1 two.1,
        then_like a b after next same (same_from a after one.0) (same_from b next two.0),
      )

  one_found_told : (question : Question) (m n : ℕ) (x y : Result Answer LineRefusal) → AsksFound question → m ≡ n → IsSure x → IsSure y → OutcomeAt honest m question x a after → OutcomeAt also n question y b next → (x ≡ y) × AreLike after next
  one_found_told question m n x y asks seen u v h k =
      let one = found_out honest up m a after question x asks u h in
      let two = found_out also so n b next question y asks v k in
      let rows = ap (λ (i : ℕ). rows_at i a.store.history.rows) seen ∙ ap (λ (g : History). rows_at n g.rows) (sym same.history) in
      (one_way question m n x y a b rows (sym same.needs_reopen) one.0 two.0, then_like a b after next same one.1 two.1)

  one_question : (question : Question) (m n : ℕ) (x y : Result Answer LineRefusal) → m ≡ n → IsSure x → IsSure y → OutcomeAt honest m question x a after → OutcomeAt also n question y b next → (x ≡ y) × AreLike after next
  one_question (AskReceipt number) m n x y seen u v h k = one_receipt_told number m n x y seen h k
  one_question (Added number kind from limit) m n x y seen u v h k =
      let one = added_out number kind from limit honest up m x a after u h in
      let two = added_out number kind from limit also so n y b next v k in
      (one_added number kind from limit m n x y a b seen (sym same.history) (sym same.needs_reopen) one.0 two.0, then_like a b after next same one.1 two.1)
  one_question question m n x y seen u v h k = one_found_told question m n x y tt seen u v h k

-- behind AT the number is compared first
above_all : {D : Type 0} (honest : Type 0) (releases : Releases) (session number : ℕ) (question : Question) (outcome : Result Answer LineRefusal) (old new : Server D) → old.store.history.imports < number → IsOutcome honest releases session (At number question) outcome old new
    → (outcome ≡ Err refusals.PinRange) × Same old new
above_all honest releases session number question (Ok answer) old new above h = let within = h.0 in absurd (omega (arith, above, within))
above_all honest releases session number question (Err (refusals.Unread reason)) old new above h = absurd h
above_all honest releases session number question (Err refusals.PinRange) old new above h = (refl, same_from old new h.1)
above_all honest releases session number question (Err refusals.NoFolder) old new above h = absurd h.1
above_all honest releases session number question (Err (refusals.Store e)) old new above h = let within = h.0 in absurd (omega (arith, above, within))

-- ---- a line

module _ {D : Type 0} (releases : Releases) (a b after next : Server D) (honest also : Type 0) (up : honest) (so : also) (same : AreLike a b) where
  one_behind : (session number : ℕ) (question : Question) (x y : Result Answer LineRefusal) → (old : (number ≤ a.store.history.imports) ⊎ (a.store.history.imports < number)) → IsSure x → IsSure y
      → IsOutcome honest releases session (At number question) x a after → IsOutcome also releases session (At number question) y b next → (x ≡ y) × AreLike after next
  one_behind session number question x y (inl within) u v h k =
      let there : number ≤ b.store.history.imports = subst (λ (g : History). number ≤ g.imports) (sym same.history) within in
      one_question a b after next honest also up so same question number number x y refl u v
      (outcome_at honest releases session question a after (At number question) number x (inr (refl, within)) h)
      (outcome_at also releases session question b next (At number question) number y (inr (refl, there)) k)
  one_behind session number question x y (inr above) u v h k =
      let there : b.store.history.imports < number = subst (λ (g : History). g.imports < number) (sym same.history) above in
      let one = above_all honest releases session number question x a after above h in
      let two = above_all also releases session number question y b next there k in
      (one.0 ∙ sym two.0, then_like a b after next same one.1 two.1)

  one_outcome : (session : ℕ) (c : Command) (x y : Result Answer LineRefusal) → IsSure x → IsSure y → IsOutcome honest releases session c x a after → IsOutcome also releases session c y b next → (x ≡ y) × AreLike after next
  one_outcome session (Import name) x y u v h k =
      one_imported releases a b after next honest also up so same name x y (import_told honest releases session name x a after u h) (import_told also releases session name y b next v k)
  one_outcome session (Check name) x y u v h k =
      one_checked releases a b after next honest also up so same name x y (check_told honest releases session name x a after u h) (check_told also releases session name y b next v k)
  one_outcome session Merge x y u v h k = one_merge x y a b after next same (merge_told honest releases session x a after h) (merge_told also releases session y b next k)
  one_outcome session (Ask question) x y u v h k =
      let seen = ap (λ (p : List (Option ℕ)). pin_of p session a.store.history.imports) (sym same.pins) ∙ ap (λ (g : History). pin_of b.pins session g.imports) (sym same.history) in
      one_question a b after next honest also up so same question (imports_seen a session) (imports_seen b session) x y seen u v
      (outcome_at honest releases session question a after (Ask question) (imports_seen a session) x (inl (refl, refl)) h)
      (outcome_at also releases session question b next (Ask question) (imports_seen b session) y (inl (refl, refl)) k)
  one_outcome session (At number question) x y u v h k = one_behind session number question x y (within_or number) u v h k where
    within_or : (number : ℕ) → (number ≤ a.store.history.imports) ⊎ (a.store.history.imports < number)
    within_or number = turned (cases_lt a.store.history.imports number) where
      turned : (a.store.history.imports < number) ⊎ (number ≤ a.store.history.imports) → (number ≤ a.store.history.imports) ⊎ (a.store.history.imports < number)
      turned (inl above) = inr above
      turned (inr within) = inl within
  one_outcome session c x y u v h k =
      one_told c session x y a b after next same (told honest up releases session a after c x tt u h) (told also so releases session b next c y tt v k)

with_damage : {D : Type 0} (a b : Server D) → AreLike a b → b.held ≡ a.held → AreAlike a b
with_damage a b same met = record { pins = same.pins; history = same.history; catalog = same.catalog; needs_reopen = same.needs_reopen; held = met }

module _ {D : Type 0} (releases : Releases) (a b after next : Server D) (honest also : Type 0) (up : honest) (so : also) (same : AreLike a b) (words : b.store.words ≡ a.store.words) (met : b.held ≡ a.held) where
  unchanged_alike : after ≡ a → next ≡ b → AreAlike after next
  unchanged_alike first second =
      with_damage after next (then_like a b after next same (same_from a after first) (same_from b next second))
      (ap (λ (d : Server D). d.held) second ∙ met ∙ sym (ap (λ (d : Server D). d.held) first))

  -- at states that are alike a command is held back at both or at none
  one_settled : (session : ℕ) (c : Command) (x y : Result Answer LineRefusal) → IsSure x → IsSure y → Settles honest releases session c x a after → Settles also releases session c y b next → (x ≡ y) × AreAlike after next
  one_settled session c x y u v (inl h) (inl k) = (
    h.refused ∙ ap (λ (k : Held). Err (reason_of k)) (sym met) ∙ sym k.refused,
    unchanged_alike h.unchanged k.unchanged,
  )
  one_settled session c x y u v (inr (inl h)) (inr (inl k)) = (
    h.refused
        ∙ ap (λ (lack : Refusal). Err (refusals.Store lack)) (one_lacks c b.store h.lack k.lack (lacks_too c a.store b.store h.lack same.history same.catalog words h.lacks) k.lacks)
        ∙ sym k.refused,
    unchanged_alike h.unchanged k.unchanged,
  )
  one_settled session c x y u v (inl h) (inr (inl k)) = absurd (not_both c b.store (change_of a.held c h.held_back) (k.lack, k.lacks))
  one_settled session c x y u v (inr (inl h)) (inl k) = absurd (not_both c a.store (change_of b.held c k.held_back) (h.lack, h.lacks))
  one_settled session c x y u v (inr (inl h)) (inr (inr k)) =
      absurd (k.has_all (h.lack, lacks_too c a.store b.store h.lack same.history same.catalog words h.lacks))
  one_settled session c x y u v (inr (inr h)) (inr (inl k)) =
      absurd (h.has_all (k.lack, lacks_too c b.store a.store k.lack (sym same.history) (sym same.catalog) (sym words) k.lacks))
  one_settled session c x y u v (inl h) (inr (inr k)) = absurd (k.free (subst (λ (k : Held). HoldsBack k c) (sym met) h.held_back))
  one_settled session c x y u v (inr (inr h)) (inl k) = absurd (h.free (subst (λ (k : Held). HoldsBack k c) met k.held_back))
  one_settled session c x y u v (inr (inr h)) (inr (inr k)) =
      let one = one_outcome releases a b after next honest also up so same session c x y u v h.comes_out k.comes_out in
      (one.0, with_damage after next one.1 (k.damage ∙ ap (met_after y) met ∙ ap (λ (o : Result Answer LineRefusal). met_after o a.held) (sym one.0) ∙ sym h.damage))

  one_case : (line : List ℕ) (x y : Result Answer LineRefusal) → IsSure x → IsSure y
      → Replies honest releases line x a after → Replies also releases line y b next → (x ≡ y) × AreAlike after next
  one_case line x y u v (inl h) (inl k) =
      let read = one_reading line k.0 h.0 k.1 h.1 k.2 h.2 in
      let other = subst (λ (d : Command). Settles also releases h.0 d y b next) read.1 (subst (λ (s : ℕ). Settles also releases s k.1 y b next) read.0 k.3) in
      one_settled h.0 h.1 x y u v h.3 other
  one_case line x y u v (inl h) (inr k) = absurd (asked_is_read line h.0 h.1 k.0 h.2 k.1)
  one_case line x y u v (inr h) (inl k) = absurd (asked_is_read line k.0 k.1 h.0 k.2 h.1)
  one_case line x y u v (inr h) (inr k) = (
    h.2 ∙ ap (λ (r : Unread). Err (refusals.Unread r)) (one_refusal line h.0 k.0 h.1 k.1) ∙ sym k.2,
    unchanged_alike h.3 k.3,
  )

pub one_reply : (D : Type 0) (view : D → DiskView) → OneReply D view
one_reply D view releases line x y a b after next up so same words h k u v =
    one_case releases a b after next (view a.store.disk).is_honest (view b.store.disk).is_honest up so
    (record { pins = same.pins; history = same.history; catalog = same.catalog; needs_reopen = same.needs_reopen }) words same.held line x y u v h k
