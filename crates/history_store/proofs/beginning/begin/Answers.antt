use Rattle.std.specs.Prelude.{None, Some, slice_get, get_or}
use Rattle.std.specs.Int.{div_ceil}
use Rattle.std.proofs.Common.{◌≡◌, ◌≤◌, List, inl, inr, refl, sym, ap, subst, ◌∙◌, arith}
use Rattle.std.proofs.lemmas.Option.{slice_get-get_or}
use Rattle.std.proofs.lemmas.Result.{err_from_is_err_and}
use Rattle.list_lemmas.proofs.Each.{each_at_number}
use Rattle.directory.specs.declared.entry.Entry.{Entry}
use Rattle.directory.specs.declared.layout.Layout.{Layout}
use Rattle.directory.specs.Listings.{sums_of}
use Rattle.directory.specs.Fit.{fit}
use Rattle.history_store.specs.Merging.{AreFewest}
use Rattle.history_store.proofs.BegunMerge.{no_entry, lacks_output, both_short}
use Rattle.store_image.proofs.Damaged.{segments_count}
use Rattle.history_store.proofs.beginning.begin.Goals as goal

pub returns-in_default-checked_add-clause-refused : goal.returns-in_default-checked_add-clause-refused
returns-in_default-checked_add-clause-refused c =
    let over = c.in_default-checked_add.ensures in
    lacks_output c.args.directory.now.entries c.entries-entries.result.now c.in-Some.i c.in-Some.j c.entries-entries.ensures.entries c.in-Some.ensures.found (inl (omega (arith, over)))

pub returns-in_err-first-clause-refused : goal.returns-in_err-first-clause-refused
returns-in_err-first-clause-refused c =
    let p = err_from_is_err_and c.from_residual.result c.from_residual.ensures.1 in
    let l = c.entries-entries.result.now in
    rw (p.1, p.2) (lacks_output c.args.directory.now.entries l c.in-Some.i c.in-Some.j c.entries-entries.ensures.entries c.in-Some.ensures.found
    (inr (ap (λ n. fit (div_ceil n 4096) l None) (sym c.in-Some-checked_add.ensures.1) ∙ ap (λ n. fit n l None) (sym c.blocks-2.ensures) ∙ c.in_err-first.ensures.fit)))

pub returns-clause-begun : goal.returns-clause-begun
returns-clause-begun c =
    let same = c.entries-entries.ensures.entries in
    let l = c.entries-entries.result.now in
    let fewest = c.in-Some.ensures.found in
    let a = get_or l c.in-Some.i no_entry in
    let b = get_or l c.in-Some.j no_entry in
    let a_is : slice_get c.args.directory.now.entries c.in-Some.i ≡ Some a = subst (λ (x : List Entry). slice_get x c.in-Some.i ≡ Some a) same (slice_get-get_or l c.in-Some.i no_entry (omega (arith, fewest.below, fewest.within))) in
    let b_is : slice_get c.args.directory.now.entries c.in-Some.j ≡ Some b = subst (λ (x : List Entry). slice_get x c.in-Some.j ≡ Some b) same (slice_get-get_or l c.in-Some.j no_entry fewest.within) in
    let sum = c.in-Some-checked_add.ensures in
    record {
      a = a;
      b = b;
      fewest = subst (λ (x : List Entry). AreFewest x c.in-Some.i c.in-Some.j) same fewest;
      a_is = a_is;
      b_is = b_is;
      bytes = sum.1;
      bytes_fit = omega (arith, sum.0, sum.1);
      rows_are = refl;
      rows_fit = omega (arith, sum.0, each_at_number (λ e. e.rows ≤ e.bytes) c.args.directory.now.entries c.in-Some.i a a_is c.requires.long, each_at_number (λ e. e.rows ≤ e.bytes) c.args.directory.now.entries c.in-Some.j b b_is c.requires.long);
      place = ap (λ (x : List Entry). fit (div_ceil c.in-Some-checked_add.bytes 4096) x None) (sym same) ∙ ap (λ n. fit n l None) (sym c.blocks-2.ensures) ∙ c.in_ok-first.ensures.fit;
      sums = c.sums.ensures ∙ ap (λ (l : Layout). sums_of l 0) c.layout.ensures;
      crc = c.crc32c.ensures;
      none_taken = c.new.ensures.none;
    }

pub new-requires-clause-within : goal.new-requires-clause-within
new-requires-clause-within c =
    let within = subst (λ (x : List Entry). AreFewest x c.in-Some.i c.in-Some.j) c.entries-entries.ensures.entries c.in-Some.ensures.found in
    omega (arith, within.within, segments_count c.args.directory.now.entries c.args.index.now.lists c.requires.kept.segments)

pub new-requires-clause-short : goal.new-requires-clause-short
new-requires-clause-short c a b a_is b_is =
    let same = c.entries-entries.ensures.entries in
    let l = c.entries-entries.result.now in
    let fewest = c.in-Some.ensures.found in
    let first = get_or l c.in-Some.i no_entry in
    let second = get_or l c.in-Some.j no_entry in
    let first_is : slice_get c.args.directory.now.entries c.in-Some.i ≡ Some first = subst (λ (x : List Entry). slice_get x c.in-Some.i ≡ Some first) same (slice_get-get_or l c.in-Some.i no_entry (omega (arith, fewest.below, fewest.within))) in
    let second_is : slice_get c.args.directory.now.entries c.in-Some.j ≡ Some second = subst (λ (x : List Entry). slice_get x c.in-Some.j ≡ Some second) same (slice_get-get_or l c.in-Some.j no_entry fewest.within) in
    both_short c.args.directory.now.entries c.args.index.now.lists c.in-Some.i c.in-Some.j first second a b c.requires.kept.segments first_is second_is a_is b_is (omega (arith, c.in-Some-checked_add.ensures.0, c.in-Some-checked_add.ensures.1))
