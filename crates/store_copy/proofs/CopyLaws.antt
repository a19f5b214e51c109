-- The laws of copies.
use Rattle.std.specs.Prelude.{◌==◌, nat_le, All}
use Rattle.std.specs.List.{AllByRecursion, filter}
use Rattle.std.proofs.Common.{◌≡◌, inl, inr, ℕ, zero, suc, ◌+◌, ◌≤◌, Bool, true, false, cond, List, [], ◌∷◌, length, map, take, refl, sym, ap, subst, ◌∙◌, arith}
use Rattle.std.proofs.lemmas.Bool.Decides.{nat_tests}
use Rattle.std.proofs.lemmas.Bool.{false_from_ne_true}
use Rattle.std.proofs.lemmas.List.Elements.{All-from_recursion}
use Rattle.rf2_values.specs.Row.{RowValue}
use Rattle.blocks.specs.declared.slots.Slot.{Slot}
use Rattle.blocks.specs.declared.slots.Slot.TheVariants.{A}
use Rattle.history_model.specs.declared.stamped.StampedRow.{StampedRow}
use Rattle.history_model.specs.History.{History, IsHistory, after_release, no_history, rows_at, stamped, stamped_cmp, then_all}
use Rattle.history_model.specs.Brought.{IsLatestDay, brought_by}
use Rattle.history_model.proofs.InOrder.{same_ascending, Has-put_all_cases, Has-put_all_old}
use Rattle.history_model.proofs.Keys.{stamped_total}
use Rattle.history_model.proofs.Releases.{then_is_history}
use Rattle.history_model.proofs.Chains.{stamp_is, imports_then}
use Rattle.directory.specs.Listings.{DirectoryValue, number_of}
use Rattle.directory.specs.declared.entry.Entry.{Entry}
use Rattle.directory.specs.declared.layout.Layout.{Layout}
use Rattle.directory.specs.declared.layout.Layout.TheVariants as layouts
use Rattle.directory.specs.declared.sums.Sums.TheVariants as sums
use Rattle.directory.specs.Places.{end_block, extent_of}
use Rattle.segment.proofs.SegmentLaws.{one_segment}
use Rattle.store_image.specs.Kept.{entry_at, history_of}
use Rattle.store_image.specs.Images.{RepresentsAs}
use Rattle.store_image.specs.OnDisk.{HasStore}
use Rattle.store_image.proofs.Standing.{represents_one}
use Rattle.store_image.specs.Images.{Represents}
use Rattle.store_copy.specs.Copying.{chosen, entries_from, first_imports, up_to}
use Rattle.store_copy.specs.Answers.{copy_of, imports_of, layout_of, lists_of}
use Rattle.store_copy.specs.Laws.{CopyRepresents, EachCrashLeavesACopy, EachSegmentIsSummed, FirstImportsAreReleases, AllImportsAreAll, PinsStay, ReceiptsStay}
use Rattle.store_copy.proofs.UpTo.{Has-up_to, Has-up_to_from, up_to_ascends, listed_up_to}

-- ---- what a copy represents

represented : (slot : Slot) (d : DirectoryValue) (lists : List (List StampedRow)) (file : List ℕ) → HasStore slot d lists file → Represents file (history_of d lists) d.layout d.epoch d.entries
represented slot d lists file shows = record { slot = slot; content = shows.0; lists = lists; stands = shows.2.has_pieces; says = shows.1; other_is_whole = shows.2.other_is_whole; rows = refl }

pub copy_represents : CopyRepresents
copy_represents asked in_layout file c h layout is rep =
    let of = is.of in
    let d = of.directory in
    let n = imports_of asked of in
    let one = represents_one one_segment file h (history_of d of.lists) layout d.layout rep.0 d.epoch rep.1 d.entries rep.2 (represented of.slot d of.lists file of.is) in
    let rows : history_of (copy_of asked in_layout of) (lists_of asked of) ≡ first_imports n (history_of d of.lists) = ap (λ (rows : List StampedRow). record { imports = n; rows = rows }) (listed_up_to n of.lists of.is.1.kept.apart) in
    let there : RepresentsAs (layout_of in_layout of) (first_imports n (history_of d of.lists)) c = subst (λ (g : History). RepresentsAs (layout_of in_layout of) g c) rows (2, (copy_of asked in_layout of).entries, represented A (copy_of asked in_layout of) (lists_of asked of) c is.is) in
    let P : History → Type 0 = λ g. (chosen asked g.imports ≤ g.imports) × (number_of layout ≤ number_of (chosen in_layout layout)) × RepresentsAs (chosen in_layout layout) (first_imports (chosen asked g.imports) g) c in
    let Q : Layout → Type 0 = λ l. (number_of l ≤ number_of (chosen in_layout l)) × RepresentsAs (chosen in_layout l) (first_imports n (history_of d of.lists)) c in
    let either = subst Q (sym one.1) (is.not_lower, there) in
    let all : P (history_of d of.lists) = (is.within, either.0, either.1) in
    subst P (sym one.0) all

-- in layout 3 each entry has a checksum of the whole segment
abbrev IsWhole : Entry → Type 0
IsWhole entry = (sum : ℕ) × (entry.sums ≡ sums.Whole sum)

whole_sums : (first : ℕ) (lists : List (List StampedRow)) → AllByRecursion IsWhole (entries_from layouts.Three first lists)
whole_sums first [] = tt
whole_sums first (rows ∷ lists) = ((_, refl), whole_sums (end_block (extent_of (entry_at layouts.Three first rows))) lists)

pub each_segment_is_summed : EachSegmentIsSummed
each_segment_is_summed asked in_layout file copy state has three =
    let lists = lists_of asked has.of in
    let layout = sym (ap (λ (d : DirectoryValue). d.layout) has.copy_is) ∙ three in
    let entries = ap (λ (d : DirectoryValue). d.entries) has.copy_is ∙ ap (λ (l : Layout). entries_from l 4 lists) layout in
    let each = All-from_recursion IsWhole (entries_from layouts.Three 4 lists) (whole_sums 4 lists) in
    subst (λ (es : List Entry). All IsWhole es) (sym entries) each

pub each_crash_leaves_a_copy : EachCrashLeavesACopy
each_crash_leaves_a_copy asked in_layout file copy state has c image =
    let on = has.on_disk in
    let same = has.copy_is in
    record {
      of = has.of;
      within = has.within;
      not_lower = has.not_lower;
      is = subst (λ d. HasStore A d (lists_of asked has.of) c) same (on.0, on.1, on.2 c image);
    }

-- ---- the first imports are those of the first releases

stays_one : (h : History) (release : List RowValue) (n : ℕ) → IsHistory h → n ≤ h.imports → up_to n (after_release h release).rows ≡ up_to n h.rows
unfolding after_release
stays_one h release n is le =
    let after = after_release h release in
    let next = h.imports + 1 in
    same_ascending stamped_total (up_to n after.rows) (up_to n h.rows) (up_to_ascends n after.rows (then_is_history h release is).ascending) (up_to_ascends n h.rows is.ascending)
    (λ s k.
    let w = Has-up_to n after.rows s k in
    Has-up_to_from n h.rows s (elim (Has-put_all_cases stamped_cmp (stamped next release) h.rows s w.0) [
      | inl a ↦ absurd (let number = stamp_is next release s a in let small = w.1 in omega (arith, number, small, le))
      | inr b ↦ b
    ]) w.1)
    (λ s k. let w = Has-up_to n h.rows s k in Has-up_to_from n after.rows s (Has-put_all_old stamped_cmp (stamped next release) h.rows s w.0) w.1)

stays : (releases : List (List RowValue)) (h : History) (n : ℕ) → IsHistory h → n ≤ h.imports → up_to n (then_all h releases).rows ≡ up_to n h.rows
stays [] h n is le = refl
stays (release ∷ releases) h n is le =
    stays releases (after_release h release) n (then_is_history h release is) (omega (arith, le, imports_then h release)) ∙ stays_one h release n is le

all_up_to : (n k : ℕ) (rows : List StampedRow) → k ≤ n → AllByRecursion (λ (s : StampedRow). (1 ≤ s.import) × (s.import ≤ k)) rows → up_to n rows ≡ rows
unfolding up_to
all_up_to n k [] le all = refl
all_up_to n k (s ∷ rows) le all =
    let few = all.0.1 in
    let early : nat_le s.import n ≡ true = grind (arith, nat_tests, le, few) in
    ap (λ b. cond b (s ∷ up_to n rows) (up_to n rows)) early ∙ ap (λ (l : List StampedRow). s ∷ l) (all_up_to n k rows le all.1)

pub all_imports_are_all : AllImportsAreAll
all_imports_are_all h is = ap (λ (rows : List StampedRow). record { imports = h.imports; rows = rows }) (all_up_to h.imports h.imports h.rows (omega arith) is.numbered)

first_at : (releases : List (List RowValue)) (h : History) (n m : ℕ) → IsHistory h → m ≡ h.imports + n → n ≤ length releases → first_imports m (then_all h releases) ≡ then_all h (take n releases)
first_at releases h zero m is same le =
    let imports : m ≡ h.imports = omega (arith, same) in
    let rows : up_to m (then_all h releases).rows ≡ h.rows = stays releases h m is (omega (arith, imports)) ∙ all_up_to m h.imports h.rows (omega (arith, imports)) is.numbered in
    λ i. record { imports = imports i; rows = rows i }
first_at [] h (suc n) m is same le = absurd (omega (arith, le))
first_at (release ∷ releases) h (suc n) m is same le =
    first_at releases (after_release h release) n m (then_is_history h release is) (omega (arith, same, imports_then h release)) (omega (arith, le))

none_is_history : IsHistory no_history
none_is_history = record { ascending = tt; numbered = tt }

pub first_imports_are_releases : FirstImportsAreReleases
first_imports_are_releases releases n le = first_at releases no_history n n none_is_history (omega arith) le

-- ---- what is shown and said of them

filter_filter : {X : Type 0} (p q : X → Bool) → ((x : X) → p x ≡ true → q x ≡ true) → (xs : List X) → filter p (filter q xs) ≡ filter p xs
filter_filter p q so [] = refl
filter_filter p q so (x ∷ xs) =
    elim (q x) as (λ b. q x ≡ b → filter p (cond b (x ∷ filter q xs) (filter q xs)) ≡ cond (p x) (x ∷ filter p xs) (filter p xs)) [
      | true ↦ λ e. ap (λ l. cond (p x) (x ∷ l) l) (filter_filter p q so xs)
      | false ↦ λ e.
          let fails : p x ≡ false = false_from_ne_true (p x) (λ passes. let there = so x passes in absurd cc) in
          filter_filter p q so xs ∙ sym (ap (λ b. cond b (x ∷ filter p xs) (filter p xs)) fails)
    ] refl

pub pins_stay : PinsStay
unfolding up_to rows_at
pins_stay h n pin le =
    ap (map (λ (s : StampedRow). s.row)) (filter_filter (λ (s : StampedRow). nat_le s.import pin) (λ (s : StampedRow). nat_le s.import n) (λ s e. grind (arith, nat_tests, e, le)) h.rows)

brought_same : (n number : ℕ) (rows : List StampedRow) → number ≤ n → brought_by number (up_to n rows) ≡ brought_by number rows
unfolding up_to brought_by
brought_same n number rows le = filter_filter (λ (s : StampedRow). s.import == number) (λ (s : StampedRow). nat_le s.import n) (λ s e. grind (arith, nat_tests, e, le)) rows

pub receipts_stay : ReceiptsStay
receipts_stay h n number new latest small le =
    let same = brought_same n number h.rows small in (
      λ r. record { imported = (r.imported.0, small); new_is = r.new_is ∙ sym (ap length same); latest_is = subst (IsLatestDay latest) (sym same) r.latest_is },
      λ r. record { imported = (r.imported.0, omega (arith, small, le)); new_is = r.new_is ∙ ap length same; latest_is = subst (IsLatestDay latest) same r.latest_is },
    )
