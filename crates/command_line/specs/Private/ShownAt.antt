-- What calls of a comparison leave of a store.
use Rattle.std.specs.Prelude.{◌≡◌, ◌≤◌, ◌+◌, ◌-◌, ◌^◌, ℕ, min}
use Rattle.std.proofs.Common.{refl, ap, ◌∙◌}
use Rattle.std.proofs.Math.Nat.{le_refl, le_trans, add-le-add, le-min, min-le_left, min-le_right}
use Rattle.rf2_values.specs.Row.{RowValue}
use Rattle.rf2_values.specs.Key.{key_of}
use Rattle.disk_model.specs.View.{DiskView}
use Rattle.fault_counts.specs.Counting.{HasRisen}
use Rattle.fault_counts.specs.declared.fault.ReadFault.{ReadFault}
use Rattle.fault_counts.specs.declared.fault.ReadFault.TheVariants as readfault
use Rattle.history_model.specs.History.{History, rows_at}
use Rattle.history_store.specs.StoreValue.{StoreValue}
use Rattle.snapshot_check.specs.Differences.{ShownRows}
use Rattle.command_line.specs.Verifying.{rows_shown, MayBeReadFor}
use Rattle.command_line.specs.Private.Verifying.{OnlyAsked, HasFailed, IsReadFailure}
use Rattle.command_line.specs.OnlyRead.{IsOnlyRead}

risen_after : (a b c : ℕ) → a ≤ b → HasRisen b c → HasRisen a c
risen_after a b c first second =
    let greatest = 2 ^ 64 - 1 in
    let next = le_trans (min-le_left (a + 1) greatest) (add-le-add first (le_refl 1)) in (
      le_trans first second.0,
      le_trans (le-min next (min-le_right (a + 1) greatest)) second.1,
    )

module _ {D : Type 0} (view : D → DiskView) where
  not_read : (disk : D) → IsOnlyRead view disk disk
  not_read disk = record {
    moments = λ up. refl;
    honesty = (λ up. up, λ up. up);
    failures = le_refl (view disk).failures;
  }

  read_then : (old mid new : D) → IsOnlyRead view old mid → IsOnlyRead view mid new
      → IsOnlyRead view old new
  read_then old mid new first second = record {
    moments = λ up. second.moments (first.honesty.0 up) ∙ first.moments up;
    honesty = (λ up. second.honesty.0 (first.honesty.0 up), λ up. first.honesty.1 (second.honesty.1 up));
    failures = le_trans first.failures second.failures;
  }

  pub exactly : (a : StoreValue D) → (view a.disk).is_honest → (read wanted : RowValue) → MayBeReadFor view a read wanted → read ≡ wanted
  exactly a honest read wanted may = may.exact honest

  pub keyed_so : (a : StoreValue D) (read wanted : RowValue) → MayBeReadFor view a read wanted → key_of read ≡ key_of wanted
  keyed_so a read wanted may = may.stored.key

  pub same_rows : (a b : StoreValue D) (day other : ℕ) → OnlyAsked view a b → other ≡ day → rows_shown b other ≡ rows_shown a day
  same_rows a b day other asked same =
      let shown : History → ℕ → ShownRows = λ h date. record { rows = rows_at h.imports h.rows; date = date } in
      ap (λ h. shown h other) asked.history ∙ ap (λ date. shown a.history date) same

  pub steady_so : (a b : StoreValue D) → OnlyAsked view a b → (read wanted : RowValue) → MayBeReadFor view b read wanted → MayBeReadFor view a read wanted
  steady_so a b asked read wanted may = record {
    stored = record { key = may.stored.key; stored = asked.steady read may.stored.stored };
    exact = λ honest. may.exact (asked.only.honesty.0 honest);
  }

  pub still : (a : StoreValue D) → OnlyAsked view a a
  still a = record { only = not_read a.disk; history = refl; open_still = refl; steady = λ row stored. stored }

  pub asked_on : (a b c : StoreValue D) → OnlyAsked view a b → OnlyAsked view b c → OnlyAsked view a c
  asked_on a b c ab bc = record {
    only = read_then a.disk b.disk c.disk ab.only bc.only;
    history = bc.history ∙ ab.history;
    open_still = bc.open_still ∙ ab.open_still;
    steady = λ row stored. ab.steady row (bc.steady row stored);
  }

  failure_on : (e : ReadFault) (a b c : StoreValue D) → OnlyAsked view a b → IsReadFailure view e b c → IsReadFailure view e a c
  failure_on readfault.OutOfMemory a b c ab cause = tt
  failure_on readfault.DiskFault a b c ab cause = λ is_open. risen_after (view a.disk).failures (view b.disk).failures (view c.disk).failures ab.only.failures (cause (ab.open_still ∙ is_open))
  failure_on readfault.Damaged a b c ab cause = λ honest. cause (ab.only.honesty.0 honest)

  pub failed_on : (e : ReadFault) (a b c : StoreValue D) → OnlyAsked view a b → HasFailed view e b c → HasFailed view e a c
  failed_on e a b c ab bc = record {
    only = read_then a.disk b.disk c.disk ab.only bc.only;
    cause = failure_on e a b c ab bc.cause;
  }
