-- The check of the release under a name, as a response.
use Rattle.std.proofs.Common.{◌≡◌, ℕ, List, refl, sym, ap, subst, ◌∙◌, Result, Ok, Err, inl, inr, Some, None, arith}
use Rattle.disk_model.specs.View.{DiskView}
use Rattle.history_model.specs.declared.receipt.Receipt.{Receipt}
use Rattle.history_model.specs.History.{History, full}
use Rattle.import_check.specs.declared.release.Release.{Release}
use Rattle.import_check.specs.Release.{files_of}
use Rattle.blocks.proofs.Looked.{none_looks_up}
use Rattle.history_store.specs.declared.refusal.Refusal.{Refusal}
use Rattle.history_store.specs.declared.refusal.Refusal.TheVariants as store
use Rattle.history_store.specs.StoreValue.{StoreValue}
use Rattle.history_store.specs.Stored.{IsStored}
use Rattle.history_store.specs.Queries.{is_listed}
use Rattle.history_store.specs.Checking.{IsChecking}
use Rattle.line_commands.specs.Commands.{Check}
use Rattle.line_server.specs.declared.refusal.LineRefusal.{LineRefusal}
use Rattle.line_server.specs.declared.refusal.LineRefusal.TheVariants as refusals
use Rattle.line_server.specs.declared.source.SourceFault.{SourceFault}
use Rattle.line_server.specs.declared.source.SourceFault.TheVariants as faults
use Rattle.import_check.specs.declared.scope.Scope.{Scope}
use Rattle.line_server.specs.Sources.{Releases, SourceView, IsGiven, of_source}
use Rattle.line_server.specs.ReplyValue.{Answer, Done, ReplyValue, reply_value}
use Rattle.line_server.specs.StateValue.{StateValue, HoldsBack}
use Rattle.line_server.specs.Replies.{IsChecked, IsStoreRefusal, import_words, server}
use Rattle.store_life.specs.Life.{Other}
use Rattle.line_server.specs.Turns.{LeavesQueried, ReadsKnownOf, IsComparedWith, ComparesStored}
use Rattle.line_server.specs.Private.{IsResponse}
use Rattle.store_life.proofs.Made.{check_made, unmade}
use Rattle.line_server.proofs.Importing.{same_server, refused_imports}
use Rattle.history_store.proofs.AnyStored.{check_any}
use Rattle.history_store.specs.Prepared.{scope_of}
use Rattle.line_server.proofs.KnownRead.{none_known, known_of, compares_of, refused_compared}
use Rattle.line_server.proofs.Queried.{carried_out, refused_as, refused_by, lack_is_no_fault}

module _ {D : Type 0} (source : SourceView) (view : D → DiskView) (name : List ℕ) (session : ℕ) (state : StateValue) (free : HoldsBack state.held (Check name) → ⊥) where
  -- the disk wasn't used
  unread : (s : StoreValue D) → LeavesQueried view s s
  unread s = (λ h. refl, none_looks_up (is_listed s.catalog.entries) s.cache (view s.disk).bytes_read, refl)

  -- the source had no memory
  lacking : (s : StoreValue D) → IsResponse (Err (refusals.Store store.OutOfMemory)) source view session (Check name) (server state s) (server state s)
  lacking s =
      carried_out source view (Err (refusals.Store store.OutOfMemory)) session (Check name) (Err (refusals.Store store.OutOfMemory)) Other (server state s) (server state s) source.releases refl
      (λ line asks. record { replies = inl (session, Check name, asks, inr (inr (record { free = free; has_all = λ later. later.1; comes_out = same_server state s; damage = refl }))); asked = tt })
      (λ h line asks. record { replies = inl (session, Check name, asks, inr (inr (record { free = free; has_all = λ later. later.1; comes_out = same_server state s; damage = refl }))); asked = tt })
      (unmade view s) refl (unread s, none_known view source.releases name 0 s, λ release has. tt) (λ h. (unread s, none_known view source.releases name 0 s, λ release has. tt)) (omega arith)

  -- it has no release under the name
  missing : (s : StoreValue D) → (source.is_honest → source.releases (scope_of s.catalog) name ≡ None) → IsResponse (Err refusals.NoFolder) source view session (Check name) (server state s) (server state s)
  missing s none =
      carried_out source view (Err refusals.NoFolder) session (Check name) (Err refusals.NoFolder) Other (server state s) (server state s) (λ k n. None) refl
      (λ line asks. record { replies = inl (session, Check name, asks, inr (inr (record { free = free; has_all = λ later. later.1; comes_out = (name, refl, refl, refl); damage = refl }))); asked = tt })
      (λ h line asks. record { replies = inl (session, Check name, asks, inr (inr (record { free = free; has_all = λ later. later.1; comes_out = (name, refl, none h, refl); damage = refl }))); asked = tt })
      (unmade view s) refl (unread s, none_known view (λ k n. None) name 0 s, λ release has. tt) (λ h. (unread s, none_known view source.releases name 0 s, λ release has. tt)) (omega arith)

  -- no release was had, for this reason
  pub unhad : (s : StoreValue D) (scope : Scope) → scope ≡ scope_of s.catalog → (fault : SourceFault) → (source.is_honest → IsGiven (Err fault) (source.releases scope name)) → IsResponse (Err (of_source fault)) source view session (Check name) (server state s) (server (refused_as (of_source fault) state) s)
  unhad s scope is faults.OutOfMemory given = lacking s
  unhad s scope is faults.NoFolder given = missing s (λ h. ap (λ (k : Scope). source.releases k name) (sym is) ∙ given h)

  module _ (old new : StoreValue D) (release : Release) (scope : Scope) (scope_is : scope ≡ scope_of old.catalog) (had : source.is_honest → source.releases scope name ≡ Some (files_of release)) where
    -- what was given, in the store's scope
    given : source.is_honest → source.releases (scope_of old.catalog) name ≡ Some (files_of release)
    given h = ap (λ (k : Scope). source.releases k name) (sym scope_is) ∙ had h

    -- whatever came of it, the disk was left so
    left : {result : Result Receipt Refusal} (outcome : Result Answer LineRefusal) → IsComparedWith (full old.history) (IsStored view old) release outcome → (releases : Releases) → releases (scope_of old.catalog) name ≡ Some (files_of release) → IsChecking result release view old new
        → LeavesQueried view old new × ReadsKnownOf view releases name 0 old new × ComparesStored view releases name outcome old
    left outcome compared releases has c =
        ((c.meters.counts.moments, c.meters.looked_up, c.meters.counts.other_calls), known_of view 0 old new release releases name has c.meters.known, compares_of view old release releases name outcome has compared)

    -- an import of it would be taken
    pub checked : (receipt : Receipt) (reply : ReplyValue) → IsChecking (Ok receipt) release view old new
        → reply ≡ reply_value (Ok (Done (import_words receipt))) → IsResponse (Ok reply) source view session (Check name) (server state old) (server state new)
    checked receipt reply c told =
        let same : new.history.imports ≡ old.history.imports = ap (λ (h : History). h.imports) c.kept.1.history in
        let words = import_words receipt in
        let any = check_any (IsStored view old) (Ok receipt) old new release c.kept in
        let compared : IsComparedWith (full old.history) (IsStored view old) release (Ok (Done words)) = (c.kept.0.2.fresh, c.kept.0.2.brings) in
        carried_out source view (Ok reply) session (Check name) (Ok (Done (import_words receipt))) Other (server state old) (server state new) (λ k n. Some (files_of release)) told
        (λ line asks. record {
          replies = inl (session, Check name, asks, inr (inr (record { free = free; has_all = λ later. later.1; comes_out = (receipt, record { release = release; has = refl; at_all = any; checked = c.answer; pins = refl }, refl); damage = refl })));
          asked = tt;
        })
        (λ h line asks. record {
          replies = inl (session, Check name, asks, inr (inr (record { free = free; has_all = λ later. later.1; comes_out = (receipt, record { release = release; has = given h; at_all = any; checked = c.answer; pins = refl }, refl); damage = refl })));
          asked = tt;
        })
        (check_made view old new release (Ok receipt) c) c.meters.counts.failures (left (Ok (Done words)) compared (λ k n. Some (files_of release)) refl c) (λ h. left (Ok (Done words)) compared source.releases (given h) c) (omega (arith, same))

    -- it would be refused
    pub unchecked : (e : Refusal) → IsChecking (Err e) release view old new
        → IsResponse (Err (refusals.Store e)) source view session (Check name) (server state old) (server (refused_by e state) new)
    unchecked e c =
        carried_out source view (Err (refusals.Store e)) session (Check name) (Err (refusals.Store e)) Other (server state old) (server (refused_by e state) new) (λ k n. Some (files_of release)) refl
        (λ line asks. record { replies = inl (session, Check name, asks, inr (inr (record { free = free; has_all = λ later. later.1; comes_out = refused (λ k n. Some (files_of release)) e refl refl; damage = refl }))); asked = tt })
        (λ h line asks. record { replies = inl (session, Check name, asks, inr (inr (record { free = free; has_all = λ later. later.1; comes_out = refused source.releases e refl (given h); damage = refl }))); asked = tt })
        (check_made view old new release (Err e) c) c.meters.counts.failures (left (Err (refusals.Store e)) compared (λ k n. Some (files_of release)) refl c) (λ h. left (Err (refusals.Store e)) compared source.releases (given h) c) (refused_imports e old new c.kept.1) where
          compared : IsComparedWith (full old.history) (IsStored view old) release (Err (refusals.Store e))
          compared = refused_compared (IsStored view old) ⊥ old release e c.kept.0

          refused : (releases : Releases) (r : Refusal) → r ≡ e → releases (scope_of old.catalog) name ≡ Some (files_of release) → IsStoreRefusal (view old.disk).is_honest releases session (Check name) r (server state old) (server (refused_by e state) new)
          refused releases store.OutOfMemory is has_it =
              record { pins = refl; store = record { history = c.kept.1.history; catalog = c.kept.1.catalog; needs_reopen = c.kept.1.still (λ f. lack_is_no_fault (is ∙ f)) } }
          refused releases r is has_it =
              subst (λ (x : Refusal). IsChecked (view old.disk).is_honest releases name (Err x) (server state old) (server (refused_by e state) new)) (sym is) (record { release = release; has = has_it; at_all = check_any (IsStored view old) (Err e) old new release c.kept; checked = c.answer; pins = refl })
