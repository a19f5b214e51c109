-- What stood for a history before there was a second layout, or a third one.
use Rattle.std.specs.Prelude.{take}
use Rattle.std.proofs.Common.{◌≡◌, ℕ, List, [], ◌∷◌, length, refl, sym, ap, subst}
use Rattle.rf2_values.specs.declared.row.Kind.{Kind}
use Rattle.rf2_values.specs.declared.row.Kind.TheVariants as kinds
use Rattle.directory.specs.declared.entry.Entry.{Entry}
use Rattle.directory.specs.declared.layout.Layout.{Layout}
use Rattle.directory.specs.declared.layout.Layout.TheVariants as layouts
use Rattle.directory.specs.Listings.{DirectoryValue, HasSumOf, IsListing, form_in}
use Rattle.directory.specs.Content.{listing_bytes, header_bytes, mark}
use Rattle.std.specs.List.{AllByRecursion}
use Rattle.checksum.specs.declared.form.Form.TheVariants as forms
use Rattle.directory.specs.declared.sums.Sums.{Sums}
use Rattle.directory.specs.declared.sums.Sums.TheVariants as sums
use Rattle.history_model.specs.declared.stamped.StampedRow.{StampedRow}
use Rattle.store_image.specs.Kept.{AreSegments, AreSummed, HasKind, segment_with}
use Rattle.store_image.specs.First.{FirstStillRepresents, SecondStillRepresents, IsFirstKind, IsSecondKind, bytes_then}

of_then : Layout → ℕ → ℕ → List Entry → DirectoryValue
of_then layout epoch imports entries = record { layout = layout; epoch = epoch; imports = imports; entries = entries }

same_bytes : (layout : Layout) (epoch imports : ℕ) (entries : List Entry) → bytes_then (mark layout) epoch imports entries ≡ listing_bytes (of_then layout epoch imports entries)
unfolding of_then listing_bytes header_bytes mark
same_bytes layouts.One epoch imports entries = refl
same_bytes layouts.Two epoch imports entries = refl
same_bytes layouts.Three epoch imports entries = refl

was_kind : (k : Kind) → IsFirstKind k → HasKind layouts.One k
was_kind kinds.Concept is = tt
was_kind kinds.Description is = tt
was_kind kinds.Relationship is = tt
was_kind kinds.Association is = tt
was_kind kinds.Concrete is = absurd is
was_kind kinds.Member is = absurd is

is_kind : (k : Kind) → HasKind layouts.One k → IsFirstKind k
is_kind kinds.Concept is = tt
is_kind kinds.Description is = tt
is_kind kinds.Relationship is = tt
is_kind kinds.Association is = tt
is_kind kinds.Concrete is = absurd is
is_kind kinds.Member is = absurd is

was_second : (k : Kind) → IsSecondKind k → HasKind layouts.Two k
was_second kinds.Concept is = tt
was_second kinds.Description is = tt
was_second kinds.Relationship is = tt
was_second kinds.Association is = tt
was_second kinds.Concrete is = tt
was_second kinds.Member is = absurd is

is_second : (k : Kind) → HasKind layouts.Two k → IsSecondKind k
is_second kinds.Concept is = tt
is_second kinds.Description is = tt
is_second kinds.Relationship is = tt
is_second kinds.Association is = tt
is_second kinds.Concrete is = tt
is_second kinds.Member is = absurd is

no_sums : (s : Sums) → form_in s ≡ forms.Plain → s ≡ sums.Nowhere
no_sums sums.Nowhere is = refl
no_sums sums.Records is = absurd cc
no_sums (sums.Whole n) is = absurd cc

-- segments without checksums are plain, and no others
plain_forms : (entries : List Entry) → AllByRecursion (λ (e : Entry). e.sums ≡ sums.Nowhere) entries → AllByRecursion (λ (e : Entry). form_in e.sums ≡ forms.Plain) entries
plain_forms [] all = tt
plain_forms (e ∷ entries) all = (ap form_in all.0, plain_forms entries all.1)

forms_plain : (entries : List Entry) → AllByRecursion (λ (e : Entry). form_in e.sums ≡ forms.Plain) entries → AllByRecursion (λ (e : Entry). e.sums ≡ sums.Nowhere) entries
forms_plain [] all = tt
forms_plain (e ∷ entries) all = (no_sums e.sums all.0, forms_plain entries all.1)

plain_summed : (entries : List Entry) (lists : List (List StampedRow)) → AllByRecursion (λ (e : Entry). e.sums ≡ sums.Nowhere) entries → AreSegments entries lists → AreSummed entries lists
plain_summed [] [] all are = tt
plain_summed [] (x ∷ xs) all are = absurd are
plain_summed (e ∷ es) [] all are = absurd are
plain_summed (e ∷ es) (x ∷ xs) all are = (subst (λ (s : Sums). HasSumOf s (segment_with e x)) (sym all.0) tt, plain_summed es xs all.1 are.1)

pub first_still_represents : FirstStillRepresents
unfolding of_then mark
first_still_represents file h epoch entries = (
  λ s.
      let P : List ℕ → Type 0 = λ bytes. take (length bytes) s.content ≡ bytes in
      let listing : IsListing (of_then layouts.One epoch h.imports entries) = record { epoch = s.from_one; epoch_fits = s.epoch_fits; imports = s.imports_fit; count = s.few; entries = s.each; apart = s.entries_apart; forms = plain_forms entries s.plain } in
      record {
        slot = s.slot;
        content = s.content;
        lists = s.lists;
        stands = s.stands;
        other_is_whole = s.no_third;
        says = record {
          lists_it = record { is = listing; front = subst P (same_bytes layouts.One epoch h.imports entries) s.front; sum = tt };
          kept = record { listing = listing; segments = s.segments; apart = s.apart; history = s.history; kinds = λ i rows below. λ j row lower. was_kind _ (s.kinds_were i rows below j row lower) };
          sums = plain_summed entries s.lists s.plain s.segments;
        };
        rows = s.rows;
      },
  λ s.
      let P : List ℕ → Type 0 = λ bytes. take (length bytes) s.content ≡ bytes in
      let is = s.says.lists_it.is in
      record {
        slot = s.slot;
        content = s.content;
        lists = s.lists;
        stands = s.stands;
        no_third = s.other_is_whole;
        from_one = is.epoch;
        epoch_fits = is.epoch_fits;
        imports_fit = is.imports;
        few = is.count;
        each = is.entries;
        entries_apart = is.apart;
        plain = forms_plain entries is.forms;
        front = subst P (sym (same_bytes layouts.One epoch h.imports entries)) s.says.lists_it.front;
        segments = s.says.kept.segments;
        apart = s.says.kept.apart;
        kinds_were = λ i rows below. λ j row lower. is_kind _ (s.says.kept.kinds i rows below j row lower);
        history = s.says.kept.history;
        rows = s.rows;
      },
)

pub second_still_represents : SecondStillRepresents
unfolding of_then mark
second_still_represents file h epoch entries = (
  λ s.
      let P : List ℕ → Type 0 = λ bytes. take (length bytes) s.content ≡ bytes in
      let listing : IsListing (of_then layouts.Two epoch h.imports entries) = record { epoch = s.from_one; epoch_fits = s.epoch_fits; imports = s.imports_fit; count = s.few; entries = s.each; apart = s.entries_apart; forms = plain_forms entries s.plain } in
      record {
        slot = s.slot;
        content = s.content;
        lists = s.lists;
        stands = s.stands;
        other_is_whole = s.no_third;
        says = record {
          lists_it = record { is = listing; front = subst P (same_bytes layouts.Two epoch h.imports entries) s.front; sum = tt };
          kept = record { listing = listing; segments = s.segments; apart = s.apart; history = s.history; kinds = λ i rows below. λ j row lower. was_second _ (s.kinds_were i rows below j row lower) };
          sums = plain_summed entries s.lists s.plain s.segments;
        };
        rows = s.rows;
      },
  λ s.
      let P : List ℕ → Type 0 = λ bytes. take (length bytes) s.content ≡ bytes in
      let is = s.says.lists_it.is in
      record {
        slot = s.slot;
        content = s.content;
        lists = s.lists;
        stands = s.stands;
        no_third = s.other_is_whole;
        from_one = is.epoch;
        epoch_fits = is.epoch_fits;
        imports_fit = is.imports;
        few = is.count;
        each = is.entries;
        entries_apart = is.apart;
        plain = forms_plain entries is.forms;
        front = subst P (sym (same_bytes layouts.Two epoch h.imports entries)) s.says.lists_it.front;
        segments = s.says.kept.segments;
        apart = s.says.kept.apart;
        kinds_were = λ i rows below. λ j row lower. is_second _ (s.says.kept.kinds i rows below j row lower);
        history = s.says.kept.history;
        rows = s.rows;
      },
)
