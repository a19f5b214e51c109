-- What CHECK answers, IMPORT answers next.
use Rattle.std.proofs.Common.{◌≡◌, ◌⊎◌, ℕ, List, Result, Err, sym, ap, subst, ◌∙◌, inl, inr}
use Rattle.std.proofs.lemmas.Option.{none-some, same_Some}
use Rattle.disk_model.specs.View.{DiskView}
use Rattle.import_check.specs.Release.{files_of}
use Rattle.line_commands.specs.Commands.{Import, Check}
use Rattle.line_server.specs.declared.refusal.LineRefusal.{LineRefusal}
use Rattle.line_server.specs.Sources.{Releases}
use Rattle.line_server.specs.ReplyValue.{Answer}
use Rattle.line_server.specs.Replies.{Server}
use Rattle.line_server.specs.Laws.{CheckForetells, IsSure, without_sums}
use Rattle.store_life.proofs.OneImports.{one_import}
use Rattle.store_life.proofs.AlikeReleases.{import_alike}
use Rattle.line_server.specs.declared.held.Held.{Held}
use Rattle.line_server.specs.StateValue.{HoldsBack, reason_of}
use Rattle.line_server.proofs.HeldBack.{as_import, as_check}
use Rattle.line_server.proofs.Damage.{outcome_undamaged}
use Rattle.line_server.proofs.OneReplies.{said, same_release, NoRelease, WithRelease, WithCheck, foreseen, stays_checked, import_told, check_told}
use Rattle.line_server.proofs.Pinned.{Settles, asked_outcome}

module _ {D : Type 0} (releases : Releases) (name : List ℕ) (one two : Result Answer LineRefusal) (old checked new : Server D) (honest also : Type 0) (up : honest) (so : also) where
  with_release : NoRelease releases name one old checked ⊎ WithCheck honest releases name one old checked → NoRelease releases name two checked new ⊎ WithRelease also releases name two checked new → two ≡ one
  with_release (inl h) (inl k) = k.is ∙ sym h.is
  with_release (inl h) (inr k) = absurd (none-some _ (sym h.none ∙ same_release releases name old checked (ap without_sums h.stays.store.catalog) ∙ k.imported.has))
  with_release (inr h) (inl k) =
      let s = stays_checked old.store checked.store h.checked.release h.result h.sure (h.checked.checked up) in
      absurd (none-some _ (sym k.none ∙ sym (same_release releases name old checked (ap without_sums s.catalog)) ∙ h.checked.has))
  with_release (inr h) (inr k) =
      let s = stays_checked old.store checked.store h.checked.release h.result h.sure (h.checked.checked up) in
      let files : files_of k.imported.release ≡ files_of h.checked.release = same_Some _ _ (sym k.imported.has ∙ sym (same_release releases name old checked (ap without_sums s.catalog)) ∙ h.checked.has) in
      let other = import_alike k.imported.release h.checked.release files k.result checked.store new.store k.sure (k.imported.imported so) in
      let f = foreseen old.store checked.store h.checked.release h.result h.sure (h.checked.checked up) in
      let both = one_import D h.checked.release h.result k.result old.store checked.store f.0 new.store s.history s.catalog s.needs_reopen f.1 other h.sure k.sure in
      k.is ∙ sym (ap said both.0) ∙ sym h.is

  settled : (session other : ℕ) → IsSure one → IsSure two → Settles honest releases session (Check name) one old checked → Settles also releases other (Import name) two checked new → two ≡ one
  settled session other u v (inl h) (inl k) = k.refused ∙ ap (λ (s : Server D). Err (reason_of s.held)) h.unchanged ∙ sym h.refused
  settled session other u v (inl h) (inr (inl k)) = absurd k.lacks
  settled session other u v (inl h) (inr (inr k)) = absurd (k.free (subst (λ (s : Server D). HoldsBack s.held (Import name)) (sym h.unchanged) (as_import old.held name name h.held_back)))
  settled session other u v (inr (inl h)) k = absurd h.lacks
  settled session other u v (inr (inr h)) (inl k) =
      let same : checked.held ≡ old.held = h.damage ∙ outcome_undamaged honest up releases old checked session (Check name) one h.comes_out in
      absurd (h.free (as_check old.held name name (subst (λ (k : Held). HoldsBack k (Import name)) same k.held_back)))
  settled session other u v (inr (inr h)) (inr (inl k)) = absurd k.lacks
  settled session other u v (inr (inr h)) (inr (inr k)) =
      with_release (check_told honest releases session name one old checked u h.comes_out) (import_told also releases other name two checked new v k.comes_out)

pub check_foretells : (D : Type 0) (view : D → DiskView) → CheckForetells D view
check_foretells D view releases line text session other name one two old checked new up so asks also r s u v =
    settled releases name one two old checked new (view old.store.disk).is_honest (view checked.store.disk).is_honest up so session other u v
    (asked_outcome (view old.store.disk).is_honest releases old checked line session (Check name) one asks r)
    (asked_outcome (view checked.store.disk).is_honest releases checked new text other (Import name) two also s)
