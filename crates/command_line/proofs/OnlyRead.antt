-- Disks on which calls were made that only read.
use Rattle.std.proofs.Common.{◌∙◌, ◌≤◌, ℕ, Result, Ok, Err, refl, arith}
use Rattle.import_check.specs.declared.release.Release.{Release}
use Rattle.import_check.specs.declared.contradicting.Contradictions.{Contradictions}
use Rattle.history_store.specs.declared.refusal.Refusal.{Refusal}
use Rattle.history_store.specs.declared.refusal.Refusal.TheVariants as refusals
use Rattle.history_store.specs.StoreValue.{StoreValue}
use Rattle.history_store.specs.Answers.{Counts, CountsRefusal}
use Rattle.history_store.specs.Queries.{IsQuery}
use Rattle.history_store.specs.Contradicting.{IsListing}
use Rattle.disk_model.specs.View.{DiskView}
use Rattle.command_line.specs.OnlyRead.{IsOnlyRead}

-- the count of a disk's failures never falls
refused_rises : (e : Refusal) (old new : ℕ) → CountsRefusal e old new → old ≤ new
refused_rises refusals.DiskFault old new risen = risen.0
refused_rises _ old new same = omega (arith, same)

rises : {T : Type 0} (result : Result T Refusal) (old new : ℕ) → Counts result old new → old ≤ new
rises (Ok x) old new same = omega (arith, same)
rises (Err e) old new counts = refused_rises e old new counts

module _ {D : Type 0} (view : D → DiskView) where
  pub not_read : (disk : D) → IsOnlyRead view disk disk
  not_read disk = record {
    moments = λ up. refl;
    honesty = (λ up. up, λ up. up);
    failures = omega arith;
  }

  pub read_then : (old mid new : D) → IsOnlyRead view old mid → IsOnlyRead view mid new → IsOnlyRead view old new
  read_then old mid new first second = record {
    moments = λ up. second.moments (first.honesty.0 up) ∙ first.moments up;
    honesty = (λ up. second.honesty.0 (first.honesty.0 up), λ up. first.honesty.1 (second.honesty.1 up));
    failures = (let before = first.failures in let after = second.failures in omega arith);
  }

  pub queried : {T : Type 0} (result : Result T Refusal) (old new : StoreValue D) → IsQuery result view old new → IsOnlyRead view old.disk new.disk
  queried result old new query = record {
    moments = query.moments;
    honesty = query.honesty;
    failures = rises result (view old.disk).failures (view new.disk).failures query.failures;
  }

  pub listed : (result : Result Contradictions Refusal) (release : Release) (limit : ℕ) (old new : StoreValue D) → IsListing result release limit view old new → IsOnlyRead view old.disk new.disk
  listed result release limit old new listing = record {
    moments = listing.meters.counts.moments;
    honesty = listing.meters.counts.honesty;
    failures = rises result (view old.disk).failures (view new.disk).failures listing.meters.counts.failures;
  }
