use Rattle.std.proofs.Common.{ℕ, inl, inr}
use Rattle.disk_model.specs.View.{DiskView}
use Rattle.history_store.specs.declared.refusal.Refusal.TheVariants.{OutOfMemory}
use Rattle.history_store.specs.StoreValue.{StoreValue}
use Rattle.snapshot_check.specs.declared.found.Differences.{Differences}
use Rattle.line_server.specs.declared.refusal.LineRefusal.TheVariants.{Store}
use Rattle.command_line.specs.Endings.{Report, report}
use Rattle.command_line.specs.Verifying.{IsComparison, IsComparisonTold, IsCompared}
use Rattle.command_line.specs.Private.Verifying.{IsToldOr}
use Rattle.command_line.proofs.verifying.verify.Goals as goal

-- what a comparison found was written, or memory ran out before
written : {D : Type 0} (view : D → DiskView) (limit : ℕ) (store : StoreValue D) (left : D) (found : Differences) (r : Report) → IsComparison view limit store found → IsToldOr (IsComparisonTold found) r → IsCompared view limit store left r
written view limit store left found r is (inl told) = inl (found, is, told)
written view limit store left found r is (inr told) = inr (Store OutOfMemory, tt, told)

pub returns-in-Ok-compare_at : goal.returns-in-Ok-compare_at
returns-in-Ok-compare_at g c = record {
  only_read = c.compare_at.ensures.only_read;
  compared = written g.D.Disk.view c.args.asked.list c.args.store.now c.compare_at.new.store.disk c.in-Ok-compare_at.found _ (rw c.in-Ok-compare_at.is at c.compare_at.ensures.compared) c.tell_found.ensures;
}
