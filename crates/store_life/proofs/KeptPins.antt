-- What a number of imports showed stays as it is.
use Rattle.std.proofs.Common.{◌≡◌, ℕ, ◌≤◌, Bool, List, [], ◌∷◌, sym, ap, subst, ◌∙◌, inl, inr, arith}
use Rattle.std.specs.Prelude.{◌==◌}
use Rattle.std.specs.List.{filter}
use Rattle.std.proofs.lemmas.Bool.Decides.{nat_tests}
use Rattle.disk_model.specs.Disk.{IsImage}
use Rattle.rf2_values.specs.Row.{RowValue}
use Rattle.history_model.specs.declared.stamped.StampedRow.{StampedRow}
use Rattle.history_model.specs.History.{History, IsHistory, stamped_cmp, after_release, rows_at}
use Rattle.history_model.specs.Brought.{brought_by}
use Rattle.history_model.proofs.InOrder.{same_ascending}
use Rattle.history_model.proofs.Keys.{stamped_total}
use Rattle.history_model.proofs.Filtered.{Has-filter, Has-filter_from, IsAscending-filter}
use Rattle.history_model.proofs.Chains.{pinned_stays}
use Rattle.history_model.proofs.Releases.{then_is_history}
use Rattle.history_model.proofs.Receipts.{after_cases, after_old}
use Rattle.import_check.specs.declared.release.Release.{Release}
use Rattle.history_store.specs.StoreValue.{StoreValue, IsAcknowledged}
use Rattle.disk_model.specs.View.{DiskView}
use Rattle.store_life.specs.Life.{TakesAll}
use Rattle.store_life.specs.Laws.{BroughtAlike, EachLifeKeepsItsPins, WhatIsHeldIsAHistory}
use Rattle.store_life.proofs.Living.{each_life_keeps}

-- another release changes nothing of what an import brought
pub brought_stays : (h : History) (release : List RowValue) (number : ℕ) → IsHistory h → number ≤ h.imports → BroughtAlike number (after_release h release) h
unfolding brought_by
brought_stays h release number is within =
    let of_import : StampedRow → Bool = λ s. s.import == number in
    let after = after_release h release in
    same_ascending stamped_total (filter of_import after.rows) (filter of_import h.rows)
    (IsAscending-filter of_import stamped_cmp after.rows (then_is_history h release is).ascending)
    (IsAscending-filter of_import stamped_cmp h.rows is.ascending)
    (λ s there.
    let f = Has-filter of_import after.rows s there in
    elim (after_cases h release s is f.0).origin [
      | inl late ↦ absurd (let own : s.import ≡ number = grind (arith, nat_tests, f.1) in let last = late.0 in omega (arith, own, last, within))
      | inr known ↦ Has-filter_from of_import h.rows s known.1 f.1
    ])
    (λ s there.
    let f = Has-filter of_import h.rows s there in
    Has-filter_from of_import after.rows s (after_old h release s f.0) f.1)

-- ---- the rows up to it

later : (g : History) (rows : List RowValue) (n : ℕ) → n ≤ g.imports → n ≤ (after_release g rows).imports
unfolding after_release
later g rows n le = omega (arith, le)

-- imports that come later
pub takes_stays : (h k : History) (releases : List Release) (pin : ℕ) → IsHistory h → pin ≤ h.imports → TakesAll h releases k → rows_at pin k.rows ≡ rows_at pin h.rows
takes_stays h k [] pin is le takes = ap (λ (x : History). rows_at pin x.rows) takes
takes_stays h k (release ∷ releases) pin is le takes =
    takes_stays (after_release h takes.0.rows) k releases pin (then_is_history h takes.0.rows is) (later h takes.0.rows pin le) takes.1
    ∙ pinned_stays h takes.0.rows pin is le

pub alike_later : (h k : History) (releases : List Release) (number : ℕ) → IsHistory h → number ≤ h.imports → TakesAll h releases k → BroughtAlike number k h
alike_later h k [] number is le takes = ap (λ (x : History). brought_by number x.rows) takes
alike_later h k (release ∷ releases) number is le takes =
    alike_later (after_release h takes.0.rows) k releases number (then_is_history h takes.0.rows is) (later h takes.0.rows number le) takes.1
    ∙ brought_stays h takes.0.rows number is le

-- what a store holds is a history
pub held_history : {D : Type 0} (view : D → DiskView) (s : StoreValue D) → IsImage (view s.disk).moments.state (view s.disk).moments.state.now → IsAcknowledged view s → IsHistory s.history
held_history view s image ack =
    let stands = ack.each (view s.disk).moments.state.now image in
    subst (λ (rows : List StampedRow). IsHistory (record { imports = s.history.imports; rows = rows })) (sym stands.rows) stands.says.kept.history

module _ (D : Type 0) (view : D → DiskView) (now_is_image : (disk : D) → (view disk).is_honest → IsImage (view disk).moments.state (view disk).moments.state.now) where
  pub what_is_held_is_a_history : WhatIsHeldIsAHistory D view
  what_is_held_is_a_history s up ack = held_history view s (now_is_image s.disk up) ack

  pub each_life_keeps_its_pins : EachLifeKeepsItsPins D view
  each_life_keeps_its_pins first last events pin up ack lives le =
      let l = each_life_keeps D view first last events up ack lives in
      let is = held_history view first (now_is_image first.disk up) ack in (
        takes_stays first.history last.history l.0 pin is le l.2,
        λ number few. alike_later first.history last.history l.0 number is (omega (arith, few, le)) l.2,
      )
