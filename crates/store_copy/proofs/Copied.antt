-- What a copy is once it is written, and what crashes leave up to then.
use Rattle.std.specs.Prelude.{Option}
use Rattle.std.proofs.Common.{◌≡◌, ◌⊎◌, inl, inr, ℕ, ◌+◌, ◌<◌, ◌≤◌, ◌∙◌, List, [], length, refl, sym, ap, subst}
use Rattle.disk_model.specs.Disk.{DiskState, IsImage, Moments, LeavesOnly}
use Rattle.disk_model.proofs.MomentSteps.{joined, weaker}
use Rattle.blocks.specs.declared.slots.Slot.{Slot}
use Rattle.blocks.specs.declared.slots.Slot.TheVariants.{A}
use Rattle.history_model.specs.declared.stamped.StampedRow.{StampedRow}
use Rattle.blocks.specs.Extents.{block_limit}
use Rattle.directory.specs.declared.entry.Entry.{Entry}
use Rattle.directory.specs.declared.layout.Layout.{Layout}
use Rattle.directory.specs.Listings.{DirectoryValue, IsListing, empty_listing, number_of}
use Rattle.store_image.specs.declared.fault.LoadFault.{LoadFault}
use Rattle.store_image.specs.declared.fault.LoadFault.TheVariants as loading
use Rattle.store_image.specs.Answers.{IsNotOpened}
use Rattle.store_image.specs.Kept.{IsKept, pieces_of}
use Rattle.store_image.specs.Pieces.{HoldsAll}
use Rattle.store_image.specs.OnDisk.{HasStore, IsOnDisk}
use Rattle.store_copy.specs.declared.fault.CopyFault.{CopyFault}
use Rattle.store_copy.specs.declared.fault.CopyFault.TheVariants as faults
use Rattle.store_copy.specs.Copying.{chosen, copied_listing, end_from, lists_up_to}
use Rattle.store_copy.specs.Answers.{Shown, HasImports, IsCopyOf, IsNotLower, HasCopy, IsFailure, IsNotCopied, of_loading}
use Rattle.blocks.specs.Slots.{HasNoCurrent, IsShut}
use Rattle.store_copy.specs.Private.Writing.{IsBlank, IsPlanned, MayBeListed}
use Rattle.store_copy.proofs.Gates.{NoStore, Whole, none_current_is_none, shut_is_none}
use Rattle.store_copy.proofs.Listing.{copied_is_kept}

-- what a crash may leave of the target up to the end
abbrev pub Leaves : DiskState → DirectoryValue → List (List StampedRow) → List ℕ → Type 0
Leaves old copy lists c = IsImage old c ⊎ (NoStore c ⊎ HasStore A copy lists c)

-- a copy that was planned
module _ (asked : Option ℕ) (in_layout : Option Layout) (d : DirectoryValue) (lists : List (List StampedRow)) (blank : DirectoryValue) (p : IsPlanned asked in_layout d lists blank) where
  abbrev pub OfCopy : DirectoryValue
  OfCopy = copied_listing blank.layout blank.imports lists

  copy_is : OfCopy ≡ copied_listing (chosen in_layout d.layout) (chosen asked d.imports) lists
  copy_is = let layout_is = p.blank.layout_is in let imports_are = p.blank.imports_are in λ k. copied_listing (layout_is k) (imports_are k) lists

  pub is_blank : IsBlank blank blank.layout blank.imports
  is_blank = record { layout_is = refl; epoch_is = p.blank.epoch_is; imports_are = refl; none = p.blank.none }

  pub is_listed : MayBeListed blank.layout blank.imports lists
  is_listed = subst (λ (l : Layout). MayBeListed l blank.imports lists) (sym p.blank.layout_is) (subst (λ n. MayBeListed (chosen in_layout d.layout) n lists) (sym p.blank.imports_are) p.listed)

  pub copy_kept : IsListing OfCopy → IsKept OfCopy (lists_up_to blank.imports lists)
  copy_kept listing =
      let n = chosen asked d.imports in
      let kept = copied_is_kept d (chosen in_layout d.layout) n lists p.not_lower p.kept (subst IsListing copy_is listing) in
      subst (λ (k : DirectoryValue). IsKept k (lists_up_to k.imports lists)) (sym copy_is) kept

  pub within_own : blank.imports ≤ d.imports
  within_own = subst (λ n. n ≤ d.imports) (sym p.blank.imports_are) p.within

  module _ (slot : Slot) (file : List ℕ) (has : HasStore slot d lists file) where
    abbrev pub OfIt : Shown file
    OfIt = record { slot = slot; directory = d; lists = lists; is = has }

    is_copy : (c : List ℕ) → HasStore A OfCopy (lists_up_to blank.imports lists) c → IsCopyOf asked in_layout file c
    is_copy c there = record {
      of = OfIt;
      within = p.within;
      not_lower = p.not_lower;
      is = subst (λ (k : DirectoryValue). HasStore A k (lists_up_to k.imports lists) c) copy_is there;
    }

    has_held : HoldsAll (pieces_of d.entries lists) file
    has_held = has.2.has_pieces.pieces_are

    pub held_still : (from : List Entry) (shown : List (List StampedRow)) (now : List ℕ) → from ≡ d.entries → shown ≡ lists → now ≡ file → HoldsAll (pieces_of from shown) now
    held_still from shown now from_is shown_is now_is = subst (λ (l : List ℕ). HoldsAll (pieces_of from shown) l) (sym now_is) (subst (λ (l : List (List StampedRow)). HoldsAll (pieces_of from l) file) (sym shown_is) (subst (λ (es : List Entry). HoldsAll (pieces_of es lists) file) (sym from_is) has_held))

    pub copy_run : (m0 m1 m2 : Moments) (shown : List (List StampedRow)) → m1 ≡ m0 → shown ≡ lists → LeavesOnly m1 m2 (Leaves m1.state (copied_listing blank.layout blank.imports shown) (lists_up_to blank.imports shown)) → LeavesOnly m0 m2 (λ c. IsImage m0.state c ⊎ (NoStore c ⊎ IsCopyOf asked in_layout file c))
    copy_run m0 m1 m2 shown same shown_is run =
        let so_far = subst (λ (m : Moments). LeavesOnly m m2 (Leaves m.state (copied_listing blank.layout blank.imports shown) (lists_up_to blank.imports shown))) same run in
        let of_lists = subst (λ (l : List (List StampedRow)). LeavesOnly m0 m2 (Leaves m0.state (copied_listing blank.layout blank.imports l) (lists_up_to blank.imports l))) shown_is so_far in
        weaker m0 m2 (Leaves m0.state OfCopy (lists_up_to blank.imports lists)) (λ c. IsImage m0.state c ⊎ (NoStore c ⊎ IsCopyOf asked in_layout file c)) (λ c leaves. elim leaves [ inl image ↦ inl image | inr other ↦ elim other [ inl none ↦ inr (inl none) | inr there ↦ inr (inr (is_copy c there)) ] ]) of_lists

    pub has_copied : (state : DiskState) (copy : DirectoryValue) (shown : List (List StampedRow)) → shown ≡ lists → copy ≡ copied_listing blank.layout blank.imports shown → IsOnDisk state A copy (lists_up_to blank.imports shown) → HasCopy asked in_layout file copy state
    has_copied state copy shown shown_is copied on = record {
      of = OfIt;
      within = p.within;
      not_lower = p.not_lower;
      copy_is = copied ∙ ap (copied_listing blank.layout blank.imports) shown_is ∙ copy_is;
      on_disk = subst (λ n. IsOnDisk state A copy (lists_up_to n lists)) p.blank.imports_are (subst (λ (l : List (List StampedRow)). IsOnDisk state A copy (lists_up_to blank.imports l)) shown_is on);
    }

-- ---- the calls that write it, one after the other

module _ (copy : DirectoryValue) (lists : List (List StampedRow)) where
  pub closing_run : (m0 m1 : Moments) → LeavesOnly m0 m1 (λ c. IsImage m0.state c ⊎ HasNoCurrent c) → LeavesOnly m0 m1 (Leaves m0.state copy lists)
  closing_run m0 m1 run =
      weaker m0 m1 (λ c. IsImage m0.state c ⊎ HasNoCurrent c) (Leaves m0.state copy lists) (λ c either. elim either [ inl image ↦ inl image | inr none ↦ inr (inl (none_current_is_none c none)) ]) run

  pub writing_run : (m0 m1 m2 : Moments) → LeavesOnly m0 m1 (Leaves m0.state copy lists) → LeavesOnly m1 m2 IsShut → LeavesOnly m0 m2 (Leaves m0.state copy lists)
  writing_run m0 m1 m2 so_far run =
      joined m0 m1 m2 (Leaves m0.state copy lists) so_far (weaker m1 m2 IsShut (Leaves m0.state copy lists) (λ c shut. inr (inl (shut_is_none c shut))) run)

  pub opening_run : (m0 m2 m3 : Moments) → LeavesOnly m0 m2 (Leaves m0.state copy lists) → LeavesOnly m2 m3 (Whole copy lists) → LeavesOnly m0 m3 (Leaves m0.state copy lists)
  opening_run m0 m2 m3 so_far run =
      joined m0 m2 m3 (Leaves m0.state copy lists) so_far (weaker m2 m3 (Whole copy lists) (Leaves m0.state copy lists) (λ c whole. inr whole) run)

-- the directory in which nothing is listed yet
pub blank_is : (layout own : Layout) (imports n : ℕ) (new blank : DirectoryValue) → layout ≡ own → imports ≡ n → new ≡ empty_listing layout → blank ≡ record new { epoch = new.epoch + 1; imports = imports } → IsBlank blank own n
blank_is layout own imports n new blank layout_is imports_are new_is is =
    let all : blank ≡ record { layout = layout; epoch = 2; imports = imports; entries = [] } = is ∙ ap (λ (d : DirectoryValue). let e : DirectoryValue = record d { epoch = d.epoch + 1; imports = imports } in e) new_is in
    record {
      layout_is = ap (λ (d : DirectoryValue). d.layout) all ∙ layout_is;
      epoch_is = ap (λ (d : DirectoryValue). d.epoch) all;
      imports_are = ap (λ (d : DirectoryValue). d.imports) all ∙ imports_are;
      none = ap (λ (d : DirectoryValue). d.entries) all;
    }

-- ---- refusals

pub chosen_within : (asked : Option ℕ) (all own n : ℕ) → all ≡ own → (n ≡ chosen asked all) × (n ≤ all) → chosen asked own ≤ own
chosen_within asked all own n same is = subst (λ k. chosen asked k ≤ k) same (subst (λ k. k ≤ all) is.0 is.1)

pub chosen_not_lower : (in_layout : Option Layout) (all own layout : Layout) → all ≡ own → (layout ≡ chosen in_layout all) × (number_of all ≤ number_of layout) → number_of own ≤ number_of (chosen in_layout own)
chosen_not_lower in_layout all own layout same is = subst (λ (l : Layout). number_of l ≤ number_of (chosen in_layout l)) same (subst (λ (l : Layout). number_of all ≤ number_of l) is.0 is.1)

pub not_loaded : (e : LoadFault) (asked : Option ℕ) (in_layout : Option Layout) (file target : List ℕ) → length target ≡ 0 → IsNotOpened e file → IsNotCopied (of_loading e) asked in_layout file target
not_loaded loading.OutOfMemory asked in_layout file target none why = tt
not_loaded loading.DiskFault asked in_layout file target none why = tt
not_loaded loading.NotAStore asked in_layout file target none why = (none, why)
not_loaded (loading.Damaged damage) asked in_layout file target none why = (none, why)

module _ (asked : Option ℕ) (in_layout : Option Layout) (file target : List ℕ) (none : length target ≡ 0) (of : Shown file) (e : CopyFault) where
  pub not_chosen : (all : ℕ) → all ≡ of.directory.imports → (e ≡ faults.NoSuchImport) × (all < chosen asked all) → IsNotCopied e asked in_layout file target
  not_chosen all same why =
      let few : of.directory.imports < chosen asked of.directory.imports = subst (λ k. k < chosen asked k) same why.1 in
      subst (λ (f : CopyFault). IsNotCopied f asked in_layout file target) (sym why.0) (none, (of, few))

  module _ (within : HasImports asked of) where
    pub not_lowered : (own : Layout) → own ≡ of.directory.layout → (e ≡ faults.LowerLayout) × (number_of (chosen in_layout own) < number_of own) → IsNotCopied e asked in_layout file target
    not_lowered own same why =
        let lower : number_of (chosen in_layout of.directory.layout) < number_of of.directory.layout = subst (λ (l : Layout). number_of (chosen in_layout l) < number_of l) same why.1 in
        subst (λ (f : CopyFault). IsNotCopied f asked in_layout file target) (sym why.0) (none, (of, within, lower))

    pub no_room : IsNotLower in_layout of → (n : ℕ) (lists : List (List StampedRow)) → n ≡ chosen asked of.directory.imports → lists ≡ of.lists → (e ≡ faults.NoRoom) × (block_limit < end_from 4 (lists_up_to n lists)) → IsNotCopied e asked in_layout file target
    no_room not_lower n lists same lists_are why =
        let large : block_limit < end_from 4 (lists_up_to (chosen asked of.directory.imports) lists) = subst (λ k. block_limit < end_from 4 (lists_up_to k lists)) same why.1 in
        subst (λ (f : CopyFault). IsNotCopied f asked in_layout file target) (sym why.0)
        (none, (of, within, not_lower, subst (λ (l : List (List StampedRow)). block_limit < end_from 4 (lists_up_to (chosen asked of.directory.imports) l)) lists_are large))

pub not_copied : (e : CopyFault) (asked : Option ℕ) (in_layout : Option Layout) (file target : List ℕ) → IsFailure e → IsNotCopied e asked in_layout file target
not_copied faults.OutOfMemory asked in_layout file target failed = tt
not_copied faults.SourceFailed asked in_layout file target failed = tt
not_copied faults.TargetFailed asked in_layout file target failed = tt
not_copied faults.NotAStore asked in_layout file target failed = absurd failed
not_copied (faults.Damaged damage) asked in_layout file target failed = absurd failed
not_copied faults.NoSuchImport asked in_layout file target failed = absurd failed
not_copied faults.LowerLayout asked in_layout file target failed = absurd failed
not_copied faults.NotEmpty asked in_layout file target failed = absurd failed
not_copied faults.NoRoom asked in_layout file target failed = absurd failed
