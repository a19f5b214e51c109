-- The kinds of the new rows of a release that is read.
use Rattle.std.proofs.Common.{◌≡◌, inl, inr, ℕ, zero, suc, ◌<◌, ◌≤◌, List, [], ◌∷◌, length, map, get_or, sym, ap, subst, ◌∙◌, arith}
use Rattle.std.proofs.lemmas.List.Elements.{All-from_recursion}
use Rattle.rf2_values.specs.declared.row.Kind.{Kind}
use Rattle.rf2_values.specs.declared.row.Kind.TheVariants as kinds
use Rattle.rf2_values.specs.Row.{RowValue, kind_of}
use Rattle.rf2_rows.specs.declared.shape.Shape.{Shape}
use Rattle.rf2_rows.specs.File.{SpellsEach}
use Rattle.history_model.specs.declared.stamped.StampedRow.{StampedRow}
use Rattle.history_model.specs.InOrder.{Has, joined}
use Rattle.history_model.specs.History.{stamped}
use Rattle.history_model.proofs.InOrder.{Has-append_cases, all_from_has}
use Rattle.directory.specs.declared.layout.Layout.{Layout}
use Rattle.directory.specs.declared.layout.Layout.TheVariants as layouts
use Rattle.directory.specs.Listings.{next_layout}
use Rattle.import_check.specs.declared.release.ReleaseFile.{ReleaseFile}
use Rattle.import_check.specs.declared.release.Release.{Release}
use Rattle.import_check.specs.declared.found.NewRows.{NewRows}
use Rattle.import_check.specs.Release.{SpellFiles}
use Rattle.import_check.specs.NewRows.{BringsByKey}
use Rattle.store_image.specs.Kept.{HasKind, AreOfLayout}
use Rattle.history_store.specs.Prepared.{IsForLater, scope_in}

-- a stamped row is one of the rows, with the number
pub of_stamped : (k : ℕ) (rows : List RowValue) (s : StampedRow) → Has (stamped k rows) s → Has rows s.row × (s.import ≡ k)
of_stamped k [] s h = absurd h
of_stamped k (row ∷ rows) s h = elim h [
  | inl e ↦ (inl (ap (λ (t : StampedRow). t.row) e), sym (ap (λ (t : StampedRow). t.import) e))
  | inr t ↦ (let w = of_stamped k rows s t in (inr w.0, w.1))
]

-- ---- a row of a release is of the kind of one of its files

spelled_kind : (shape : Shape) (rows : List RowValue) (texts : List (List ℕ)) (row : RowValue) → SpellsEach shape rows texts → Has rows row → kind_of row ≡ shape.kind
spelled_kind shape [] texts row spelled has = absurd has
spelled_kind shape (v ∷ rows) [] row spelled has = absurd spelled
spelled_kind shape (v ∷ rows) (text ∷ texts) row spelled has = elim has [
  | inl same ↦ subst (λ (w : RowValue). kind_of w ≡ shape.kind) same spelled.0.0.0
  | inr there ↦ spelled_kind shape rows texts row spelled.1 there
]

kind_in : (files : List ReleaseFile) (lists : List (List RowValue)) (row : RowValue) → SpellFiles files lists → Has (joined lists) row → Has (map (λ (file : ReleaseFile). file.kind) files) (kind_of row)
kind_in [] [] row spelled has = absurd has
kind_in [] (rows ∷ lists) row spelled has = absurd spelled
kind_in (file ∷ files) [] row spelled has = absurd spelled
kind_in (file ∷ files) (rows ∷ lists) row spelled has = elim (Has-append_cases rows (joined lists) row has) [
  | inl here ↦ inl (sym (spelled_kind _ rows spelled.0.texts row spelled.0.spelled here))
  | inr there ↦ inr (kind_in files lists row spelled.1 there)
]

-- ---- whether there are members

abbrev kinds_of : List ReleaseFile → List Kind
kinds_of files = map (λ (file : ReleaseFile). file.kind) files

pub kind_at : (files : List ReleaseFile) (i : ℕ) (file : ReleaseFile) → i < length files → file ≡ get_or files i file → file.kind ≡ kinds.Member → Has (kinds_of files) kinds.Member
kind_at [] i file lt is member = absurd (omega (arith, lt))
kind_at (f ∷ files) zero file lt is member = inl (ap (λ (x : ReleaseFile). x.kind) (sym is) ∙ member)
kind_at (f ∷ files) (suc i) file lt is member = inr (kind_at files i file (omega (arith, lt)) is member)

pub none_at_all : (files : List ReleaseFile) (i : ℕ) → length files ≤ i → ((k : ℕ) (d : ReleaseFile) → k < i → (get_or files k d).kind ≡ kinds.Member → ⊥) → Has (kinds_of files) kinds.Member → ⊥
none_at_all [] i past none has = has
none_at_all (f ∷ files) zero past none has = absurd (omega (arith, past))
none_at_all (f ∷ files) (suc i) past none (inl same) = none 0 f (omega arith) same
none_at_all (f ∷ files) (suc i) past none (inr there) = none_at_all files i (omega (arith, past)) (λ k d lt. none (suc k) d (omega (arith, lt))) there

-- ---- and the next layout has it, where the release isn't for a later one

fits : (layout : Layout) (release : Release) (kind : Kind) → (IsForLater (scope_in layout) release → ⊥) → Has (map (λ (file : ReleaseFile). file.kind) release.files.items) kind → HasKind (next_layout layout) kind
fits layouts.One release kinds.Concept not_later has = tt
fits layouts.One release kinds.Description not_later has = tt
fits layouts.One release kinds.Relationship not_later has = tt
fits layouts.One release kinds.Association not_later has = tt
fits layouts.One release kinds.Concrete not_later has = tt
fits layouts.One release kinds.Member not_later has = absurd (not_later has)
fits layouts.Two release kinds.Concept not_later has = tt
fits layouts.Two release kinds.Description not_later has = tt
fits layouts.Two release kinds.Relationship not_later has = tt
fits layouts.Two release kinds.Association not_later has = tt
fits layouts.Two release kinds.Concrete not_later has = tt
fits layouts.Two release kinds.Member not_later has = absurd (not_later has)
fits layouts.Three release kind not_later has = tt

pub admitted_kinds : {may_be : RowValue → Type 0} (layout : Layout) (release : Release) (known : List RowValue) (fresh : NewRows) (k : ℕ) → (IsForLater (scope_in layout) release → ⊥) → BringsByKey known may_be release fresh → AreOfLayout (next_layout layout) (stamped k fresh.rows.items)
admitted_kinds layout release known fresh k not_later brings = All-from_recursion Fits (stamped k fresh.rows.items) (all_from_has Fits (stamped k fresh.rows.items) each) where
  Fits : StampedRow → Type 0
  Fits s = HasKind (next_layout layout) (kind_of s.row)

  each : (s : StampedRow) → Has (stamped k fresh.rows.items) s → HasKind (next_layout layout) (kind_of s.row)
  each s has =
      let is = brings.rows_are in
      let there : Has brings.rows s.row = brings.new_by_key.from_release s.row (of_stamped k fresh.rows.items s has).0 in
      let among : Has (joined is.lists) s.row = subst (λ (l : List RowValue). Has l s.row) is.rows_are there in
      fits layout release (kind_of s.row) not_later (kind_in release.files.items is.lists s.row is.spelled among)
