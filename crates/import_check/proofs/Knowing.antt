-- What is left of what is known by calls, one after the other.
use Rattle.std.specs.Prelude.{IsErrAnd}
use Rattle.std.proofs.Common.{◌≡◌, ℕ, inl, inr, Result, Ok, Err, refl, sym, subst, ◌∙◌}
use Rattle.rf2_values.specs.Row.{RowValue}
use Rattle.rf2_values.specs.Key.{key_of}
use Rattle.import_check.specs.declared.release.PlacedLine.{PlacedLine}
use Rattle.import_check.specs.declared.sweep.Sweep.{Sweep}
use Rattle.import_check.specs.Private.Sweep.{GoesOn, GoesOnWithNew}
use Rattle.import_check.specs.Known.{KnownView, LeavesKnown, IsKnown, MayBeKnown}

-- calls that have succeeded
pub record HasAsked (old new : KnownView) : Type 0 where
  pub rows : new.rows ≡ old.rows
  pub honesty : old.is_honest → new.is_honest
  pub soundness : old.is_sound → new.is_sound
  pub steady : (row : RowValue) → new.may_be row → old.may_be row
  pub disk_faults : new.disk_faults ≡ old.disk_faults
  pub damages : new.damages ≡ old.damages

pub not_asked : (v : KnownView) → HasAsked v v
not_asked v = record { rows = refl; honesty = λ h. h; soundness = λ h. h; steady = λ row m. m; disk_faults = refl; damages = refl }

-- what may be known after calls may have been known before them
pub known_before : {a b : KnownView} → HasAsked a b → (row : RowValue) → MayBeKnown b.rows b.may_be row → MayBeKnown a.rows a.may_be row
known_before asked row m = (subst (λ rows. IsKnown rows (key_of row)) asked.rows m.0, asked.steady row m.1)

pub went_on : {a b : KnownView} {line : PlacedLine} {old new : Sweep} → HasAsked a b → GoesOn b.rows b.may_be line old new → GoesOn a.rows a.may_be line old new
went_on asked (inl same) = inl same
went_on {a} {b} {line} {old} {new} asked (inr (inl k)) = inr (inl (record {
  other = k.other;
  found = k.found;
  may_be_known = known_before asked k.found k.may_be_known;
  same_key = k.same_key;
  known_row = k.known_row;
  fresh = k.fresh;
  key = k.key;
  verdict = k.verdict;
}))
went_on {a} {b} {line} {old} {new} asked (inr (inr n)) = inr (inr (subst (λ rows. GoesOnWithNew rows line old new) asked.rows n))

module _ {E : Type 0} {by_disk by_damage : E → ℕ → ℕ → Type 0} where
  pub has_asked : {T : Type 0} {x : T} {a b c : KnownView} → HasAsked a b → LeavesKnown by_disk by_damage (Ok x) b c → HasAsked a c
  has_asked ab bc = record { rows = bc.rows ∙ ab.rows; honesty = λ h. bc.honesty (ab.honesty h); soundness = λ h. bc.soundness (ab.soundness h); steady = λ row m. ab.steady row (bc.steady row m); disk_faults = bc.disk_faults ∙ ab.disk_faults; damages = bc.damages ∙ ab.damages }

  pub asked_so : {T : Type 0} {x : T} {a b : KnownView} → HasAsked a b → LeavesKnown by_disk by_damage (Ok x) a b
  asked_so ab = record { rows = ab.rows; honesty = ab.honesty; soundness = ab.soundness; steady = ab.steady; disk_faults = ab.disk_faults; damages = ab.damages }

  -- a call that fails behind calls that succeeded, and its fault is answered
  pub asked_in_vain : {A B : Type 0} (fault : E) (result : Result B E) {a b c : KnownView} → IsErrAnd result (λ e. e ≡ fault) → HasAsked a b → LeavesKnown {T = A} by_disk by_damage (Err fault) b c → LeavesKnown by_disk by_damage result a c
  asked_in_vain fault (Ok x) is ab bc = absurd is
  asked_in_vain {A} {B} fault (Err e) {a} {b} {c} is ab bc =
      subst (λ e. LeavesKnown {T = B} by_disk by_damage (Err e) a c) (sym is) (record {
        rows = bc.rows ∙ ab.rows;
        honesty = λ h. bc.honesty (ab.honesty h);
        soundness = λ h. bc.soundness (ab.soundness h);
        steady = λ row m. ab.steady row (bc.steady row m);
        disk_faults = subst (λ n. by_disk fault n c.disk_faults) ab.disk_faults bc.disk_faults;
        damages = subst (λ n. by_damage fault n c.damages) ab.damages bc.damages;
      })
