-- The kinds of the rows that a directory lists, in the layout that comes next.
use Rattle.std.specs.Prelude.{All, Some, slice_get, slice_set}
use Rattle.std.proofs.Common.{◌≡◌, inl, inr, ℕ, List, sym, subst}
use Rattle.std.specs.List.{AllByRecursion}
use Rattle.std.proofs.lemmas.List.Elements.{recursion_from_All, All-from_recursion}
use Rattle.list_lemmas.proofs.Each.{each_at_number, each_of_set, each_of_removed}
use Rattle.rf2_values.specs.declared.row.Kind.{Kind}
use Rattle.rf2_values.specs.declared.row.Kind.TheVariants as kinds
use Rattle.rf2_values.specs.Row.{kind_of}
use Rattle.history_model.specs.declared.stamped.StampedRow.{StampedRow}
use Rattle.history_model.specs.InOrder.{Has}
use Rattle.history_model.specs.Lists.{union}
use Rattle.history_model.proofs.InOrder.{Has-all, all_from_has}
use Rattle.history_model.proofs.Listings.{Has-union_cases}
use Rattle.directory.specs.declared.layout.Layout.{Layout}
use Rattle.directory.specs.declared.layout.Layout.TheVariants as layouts
use Rattle.directory.specs.Listings.{DirectoryValue, next_layout}
use Rattle.store_image.specs.Kept.{HasKind, AreOfLayout}
use Rattle.store_image.specs.Next.{merged}

-- ---- a layout has the kinds of those before it

has_next : (layout : Layout) (kind : Kind) → HasKind layout kind → HasKind (next_layout layout) kind
has_next layouts.One kinds.Concept has = tt
has_next layouts.One kinds.Description has = tt
has_next layouts.One kinds.Relationship has = tt
has_next layouts.One kinds.Association has = tt
has_next layouts.One kinds.Concrete has = tt
has_next layouts.One kinds.Member has = absurd has
has_next layouts.Two kind has = has
has_next layouts.Three kind has = has

has_risen : (old new : Layout) (kind : Kind) → new ≡ next_layout old → HasKind old kind → HasKind new kind
has_risen old new kind same has = subst (λ (v : Layout). HasKind v kind) (sym same) (has_next old kind has)

pub of_risen : (old : Layout) (e : DirectoryValue) (lists : List (List StampedRow)) → e.layout ≡ next_layout old → All (AreOfLayout old) lists → All (AreOfLayout e.layout) lists
of_risen old e lists same all = λ k d lt. λ i s below. has_risen old e.layout _ same (all k d lt i s below)

-- ---- two lists replaced by the rows of both

union_kinds : (layout : Layout) (a b : List StampedRow) → AreOfLayout layout a → AreOfLayout layout b → AreOfLayout layout (union a b)
union_kinds layout a b first second = All-from_recursion Fits (union a b) (all_from_has Fits (union a b) each) where
  Fits : StampedRow → Type 0
  Fits s = HasKind layout (kind_of s.row)

  each : (s : StampedRow) → Has (union a b) s → HasKind layout (kind_of s.row)
  each s has = elim (Has-union_cases a b s has) [
    | inl l ↦ Has-all Fits a s (recursion_from_All Fits a first) l
    | inr r ↦ Has-all Fits b s (recursion_from_All Fits b second) r
  ]

pub merged_kinds : (layout : Layout) (lists : List (List StampedRow)) (i j : ℕ) (a b : List StampedRow) → slice_get lists i ≡ Some a → slice_get lists j ≡ Some b → All (AreOfLayout layout) lists → All (AreOfLayout layout) (merged lists i j a b)
merged_kinds layout lists i j a b a_is b_is all =
    let each : AllByRecursion (AreOfLayout layout) lists = recursion_from_All (AreOfLayout layout) lists all in
    let both : AreOfLayout layout (union a b) = union_kinds layout a b (each_at_number (AreOfLayout layout) lists i a a_is each) (each_at_number (AreOfLayout layout) lists j b b_is each) in
    All-from_recursion (AreOfLayout layout) (merged lists i j a b) (each_of_removed (AreOfLayout layout) (slice_set lists i (union a b)) j (each_of_set (AreOfLayout layout) lists i (union a b) each both))
