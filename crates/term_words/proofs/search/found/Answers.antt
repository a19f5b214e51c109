use Rattle.std.proofs.Common.{map, refl, subst}
use Rattle.std.proofs.lemmas.Result.{IfOk-weaker}
use Rattle.term_words.specs.Private.{EachMarked}
use Rattle.term_words.proofs.Splits.{each_usable}
use Rattle.term_words.proofs.Found.{rows_from_kept}
use Rattle.term_words.proofs.search.found.Goals as goal

pub marks_of-requires : goal.marks_of-requires
marks_of-requires c = rw c.as_slice.ensures.value (each_usable c.args.lists.now c.in_ok-splits.splits.items c.in_ok-splits.ensures)

pub groups_of-requires : goal.groups_of-requires
groups_of-requires c = rw c.as_slice-2.ensures.value (each_usable c.args.lists.now c.in_ok-splits.splits.items c.in_ok-splits.ensures)

pub returns : goal.returns
returns c = IfOk-weaker c.shortest.result _ _
    (λ kept shortest rows listed_so posts.
    let a = c.args in
    let search = a.search.now in
    let are = rw listed_so at c.lists-listed.ensures.places in
    let splits = c.in_ok-splits.splits.items in
    let marks = map (λ m. m.items) c.in_ok-marks.marks.items in
    let marked = subst (λ ws. EachMarked splits ws marks) c.in_ok-wanted.ensures (rw c.as_slice.ensures.value at c.in_ok-marks.ensures) in
    let grouped = rw c.as_slice-2.ensures.value at c.in_ok-groups.ensures.groups in
    let kept_so = (rw (c.as_slice-3.ensures.value, c.as_slice-4.ensures.value) at shortest) rows listed_so c.in_ok-groups.ensures.sorted in
    rows_from_kept rows are a.lists.now posts search.as_of search.wanted_type a.text.now c.in_ok-groups.groups.items marks splits c.in_ok-splits.ensures marked grouped _ kept.items kept_so search.offset search.limit refl)
    c.shortest.ensures
