-- Copying a store.
use Rattle.std.specs.Prelude.{◌≡◌, ◌⊎◌, ◌↔◌, ℕ, [], Option, Some, Result, Ok, Err}
use Rattle.std.specs.Prelude.{IfOk, IfErr, OnOk, length}
use Rattle.disk_model.specs.Disk.{IsImage, LeavesOnly}
use Rattle.fault_counts.specs.Counting.{Counts}
use Rattle.disk_model.specs.View.{DiskView}
use Rattle.directory.specs.declared.layout.Layout.{Layout}
use Rattle.directory.specs.Listings.{DirectoryValue}
use Rattle.store_image.specs.Answers.{synced}
use Rattle.store_image.specs.Images.{IsStore}
use Rattle.store_copy.specs.declared.fault.CopyFault.{CopyFault}
use Rattle.store_copy.specs.declared.fault.CopyFault.TheVariants as faults
use Rattle.store_copy.specs.Answers.{CountsSource, CountsTarget, HasCopy, IsCopyOf, IsNotCopied}
use Rattle.store_copy.specs.Answers.{StaysUnlessFailed}
use Rattle.history_store.specs.declared.refusal.Refusal.TheVariants as store
use Rattle.line_server.specs.declared.refusal.LineRefusal.{LineRefusal}
use Rattle.line_server.specs.declared.refusal.LineRefusal.TheVariants.{PinRange, Store}
use Rattle.line_server.specs.ReplyValue.{Answer, Done as AllDone}
use Rattle.command_line.specs.Hosts.{HostView, IsRemoved}
use Rattle.command_line.specs.Endings.{Report, Tells}

-- the refusal for a store that couldn't be copied
abbrev pub copy_refusal : CopyFault → LineRefusal
copy_refusal faults.OutOfMemory = Store store.OutOfMemory
copy_refusal faults.SourceFailed = Store store.DiskFault
copy_refusal faults.NotAStore = Store store.NotAStore
copy_refusal (faults.Damaged damage) = Store (store.Unreadable damage)
copy_refusal faults.NoSuchImport = PinRange
copy_refusal faults.LowerLayout = Store store.LaterVersion
copy_refusal faults.NotEmpty = Store store.NotEmpty
copy_refusal faults.NoRoom = Store store.Full
copy_refusal faults.TargetFailed = Store store.DiskFault

-- the outcome of a copy, as it is written
abbrev pub copy_told : Result DirectoryValue CopyFault → Result Answer LineRefusal
copy_told (Ok copy) = Ok (AllDone [])
copy_told (Err e) = Err (copy_refusal e)

-- The first imports of the store on one disk, or all of them, were copied to another one, in this
-- layout or in the store's; or the result says why not.
pub record IsCopied {D : Type 0} (view : D → DiskView) (imports : Option ℕ) (layout : Option Layout)
    (result : Result DirectoryValue CopyFault) (source source_left target target_left : D)
    : Type 0 where
  -- every image that a crash may leave is the copy
  pub copied : (view source).is_honest → (view target).is_honest → IfOk result
      (λ copy. HasCopy imports layout (view source).moments.state.now copy
      (view target_left).moments.state)
  -- a crash at any moment leaves what it might have left before, no store, or the whole copy
  pub any_moment : (view source).is_honest → (view target).is_honest
      → LeavesOnly (view target).moments (view target_left).moments
      (λ c. IsImage (view target).moments.state c ⊎ (IsStore c → ⊥)
      ⊎ IsCopyOf imports layout (view source).moments.state.now c)
  pub empty : (view target).is_honest → OnOk result (length (view target).moments.state.now ≡ 0)
  pub refused : (view source).is_honest → (view target).is_honest → IfErr result
      (λ e. IsNotCopied e imports layout (view source).moments.state.now
      (view target).moments.state.now)
  pub stays : (view source).is_honest → (view target).is_honest
      → StaysUnlessFailed result (view target).moments (view target_left).moments
  -- the store that is copied is synced, and otherwise unchanged
  pub source_stays : (view source).is_honest → ((view source_left).moments ≡ (view source).moments)
      ⊎ ((view source_left).moments ≡ synced (view source).moments)
  pub source_any_moment : (view source).is_honest
      → LeavesOnly (view source).moments (view source_left).moments
      (IsImage (view source).moments.state)
  pub source_honesty : (view source).is_honest ↔ (view source_left).is_honest
  pub target_honesty : (view target).is_honest ↔ (view target_left).is_honest
  pub source_failures : Counts CountsSource result (view source).failures
      (view source_left).failures
  pub target_failures : Counts CountsTarget result (view target).failures
      (view target_left).failures

-- what was made is kept, and removed if the task failed
abbrev pub IsKept : {T E D : Type 0} → HostView D → Result T E → D → Option D → Type 0
IsKept host (Ok done) made left = left ≡ Some made
IsKept host (Err e) made left = IsRemoved host made left

-- A copy was made of the store on one disk onto another one, or the result says why not. The
-- result was written, and each disk was left in its state after that, except one that was made
-- for a copy that failed.
pub record IsCopyMade {D : Type 0} (host : HostView D) (view : D → DiskView) (imports : Option ℕ)
    (layout : Option Layout) (source after target : D) (made : Option D) (report : Report)
    : Type 0 where
  pub result : Result DirectoryValue CopyFault
  pub target_left : D
  pub copied : IsCopied view imports layout result source after target target_left
  pub told : Tells report (copy_told result)
  pub made_so : IsKept host result target_left made
