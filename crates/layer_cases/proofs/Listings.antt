-- Directories with an entry more, and with the two from before a merge put back.
use Rattle.std.proofs.Common.{◌≡◌, ℕ, ◌<◌, ◌≤◌, List, [], ◌∷◌, length, refl, sym, subst, ◌∙◌, arith, slice_index_or, slice_set}
use Rattle.std.specs.Prelude.{insert, Some, Option}
use Rattle.blocks.specs.Extents.{block_count}
use Rattle.blocks.specs.declared.extent.Extent.{Extent}
use Rattle.directory.specs.declared.entry.Entry.{Entry}
use Rattle.directory.specs.declared.layout.Layout.{Layout}
use Rattle.directory.specs.Places.{extent_of}
use Rattle.directory.specs.Fit.{fit}
use Rattle.directory.specs.Listings.{DirectoryValue, IsEntry, IsListing, HasForm, most_entries, with_entry, with_two_back}
use Rattle.directory.proofs.Adding.{fit_may_be_added}

-- an entry of the form of its layout may be added where it is the fit
pub added_listing : (d : DirectoryValue) (entry : Entry) (reserved : Option Extent) → IsListing d → length d.entries < most_entries d.layout → IsEntry entry → HasForm d.layout entry
    → fit (block_count (extent_of entry)) d.entries reserved ≡ Some entry.first → IsListing (with_entry d entry)
added_listing d entry reserved is few e form place =
    fit_may_be_added d entry reserved is few e.bytes e.bytes_fit e.rows e.rows_fit e.sums form place

two_are : (l : List Entry) (x : Entry) → length l ≡ 2 → l ≡ slice_index_or l 0 x ∷ slice_index_or l 1 x ∷ []
two_are [] x two = absurd (omega (arith, two))
two_are (a ∷ []) x two = absurd (omega (arith, two))
two_are (a ∷ b ∷ []) x two = refl
two_are (a ∷ b ∷ c ∷ l) x two = absurd (omega (arith, two))

both_back : (entries : List Entry) (first second : Entry) → length entries ≡ 1 → insert (slice_set entries 0 first) 1 second ≡ first ∷ second ∷ []
both_back [] first second one = absurd (omega (arith, one))
both_back (a ∷ []) first second one = refl
both_back (a ∷ b ∷ l) first second one = absurd (omega (arith, one))

-- the only two entries of another directory may be put in place of the only one
pub back_listing : (d before : DirectoryValue) (l : List Entry) (x : Entry) (layout : Layout) (epoch : ℕ) → IsListing d → IsListing before → length d.entries ≡ 1 → l ≡ before.entries → length l ≡ 2
    → layout ≡ before.layout → epoch ≡ before.epoch → IsListing (with_two_back d layout epoch 0 1 (slice_index_or l 0 x) (slice_index_or l 1 x))
back_listing d before l x layout epoch is was one same two layout_is epoch_is =
    let P : Layout → ℕ → List Entry → Type 0 = λ v e entries. IsListing (record d { layout = v; epoch = e; entries = entries }) in
    let kept : P before.layout before.epoch before.entries =
    record { epoch = was.epoch; epoch_fits = was.epoch_fits; imports = is.imports; count = was.count; entries = was.entries; apart = was.apart; forms = was.forms } in
    let listed : P before.layout before.epoch (insert (slice_set d.entries 0 (slice_index_or l 0 x)) 1 (slice_index_or l 1 x)) =
    subst (P before.layout before.epoch) (sym same ∙ two_are l x two ∙ sym (both_back d.entries (slice_index_or l 0 x) (slice_index_or l 1 x) one)) kept in
    let at_epoch = subst (λ (e : ℕ). P before.layout e (insert (slice_set d.entries 0 (slice_index_or l 0 x)) 1 (slice_index_or l 1 x))) (sym epoch_is) listed in
    subst (λ (v : Layout). P v epoch (insert (slice_set d.entries 0 (slice_index_or l 0 x)) 1 (slice_index_or l 1 x))) (sym layout_is) at_epoch
