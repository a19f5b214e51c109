use Rattle.std.proofs.Common.{◌≡◌, ◌+◌, ◌^◌, ◌<◌, ◌++◌, ◌∷◌, [], ◌∙◌, ℕ, List, length, take, ap, sym, subst}
use Rattle.std.specs.Prelude.{Some, slice_get}
use Rattle.std.specs.List.{AllZip, sum_by}
use Rattle.history_model.specs.declared.stamped.StampedRow.{StampedRow}
use Rattle.history_model.specs.Lists.{AreLists}
use Rattle.merge.specs.Merged.{StandsTaken, rows_left}
use Rattle.merge.specs.declared.Taken.{Taken}
use Rattle.segment_index.specs.declared.index_merge.MergeMark.{MergeMark}
use Rattle.segment_index.specs.declared.words.Words.{Words}
use Rattle.segment_index.specs.Private.{moved_from}
use Rattle.segment_index.specs.Output.{OutputRows, left_rows, with_more}
use Rattle.segment_index.proofs.Outputs.{list_is, of_lists, of_rows, step_fits, step_output, more_taken, posted_on, goes_on, few_rows, found_same}
use Rattle.segment_index.proofs.index_merge.IndexMerge.take.Goals as goal

abbrev made : Words → List StampedRow → List StampedRow → ℕ → OutputRows
made keeps a b k = record { a = a; b = b; taken = k; words = keeps }

pub take-requires : goal.take-requires
take-requires c =
    let m = c.self.inside in
    let first = subst (λ (r : OutputRows). slice_get c.args.index.now.lists c.args.i ≡ Some r.a) (sym c.self.view_is) c.requires.first in
    let second = subst (λ (r : OutputRows). slice_get c.args.index.now.lists c.args.j ≡ Some r.b) (sym c.self.view_is) c.requires.second in
    let a = list_is c.places.result.now c.args.index.now.lists c.args.i m.a c.list-a.result.now c.places.ensures first c.list-a.ensures in
    let b = list_is c.places-2.result.now c.args.index.now.lists c.args.j m.b c.list-b.result.now c.places-2.ensures second c.list-b.ensures in
    record { lengths = of_lists m.at.progress m.a m.b c.list-a.result.now c.list-b.result.now a b c.self.invariant.mark_is.lengths }

pub add_places-requires : goal.add_places-requires
add_places-requires c =
    let m = c.self.inside in
    let first = subst (λ (r : OutputRows). slice_get c.args.index.now.lists c.args.i ≡ Some r.a) (sym c.self.view_is) c.requires.first in
    let second = subst (λ (r : OutputRows). slice_get c.args.index.now.lists c.args.j ≡ Some r.b) (sym c.self.view_is) c.requires.second in
    let a = list_is c.places.result.now c.args.index.now.lists c.args.i m.a c.list-a.result.now c.places.ensures first c.list-a.ensures in
    let b = list_is c.places-2.result.now c.args.index.now.lists c.args.j m.b c.list-b.result.now c.places-2.ensures second c.list-b.ensures in
    let stand = c.in_ok-taken.ensures.in_order m.a m.b c.self.invariant.lists a b in
    step_fits m.words m.a m.b m.at c.deref.result.now c.args.n m.places m.postings c.self.invariant (subst (λ (t : List Taken). AllZip (StandsTaken m.a m.b) t (take c.args.n (rows_left m.at.progress m.a m.b))) (sym c.deref.ensures.value) stand)

pub invariant_of-self-2 : goal.invariant_of-self-2
invariant_of-self-2 c =
    let m = c.self.inside in
    let p = c.in_ok-taken.progress in
    let first = subst (λ (r : OutputRows). slice_get c.args.index.now.lists c.args.i ≡ Some r.a) (sym c.self.view_is) c.requires.first in
    let second = subst (λ (r : OutputRows). slice_get c.args.index.now.lists c.args.j ≡ Some r.b) (sym c.self.view_is) c.requires.second in
    let a = list_is c.places.result.now c.args.index.now.lists c.args.i m.a c.list-a.result.now c.places.ensures first c.list-a.ensures in
    let b = list_is c.places-2.result.now c.args.index.now.lists c.args.j m.b c.list-b.result.now c.places-2.ensures second c.list-b.ensures in
    let got = c.in_ok-taken.ensures in
    let is = c.self.invariant in
    let words : m.words ≡ c.args.index.now.words = ap (λ (r : OutputRows). r.words) c.self.view_is ∙ c.requires.words in
    let posted = goes_on m.words c.args.index.now.words m.a m.b m.postings c.go_on.new.postings words (c.go_on.ensures.posted m.a m.b first second) in
    let taken = c.deref.ensures.value in
    step_output m.words m.a m.b m.at (record { progress = p; rows = c.len.result; bytes = c.in_ok-bytes.bytes }) m.places c.add_places.new.places c.in_ok-taken.taken.items c.args.n m.postings c.go_on.new.postings is
    m.at.progress.a_within m.at.progress.b_within p.a_within p.b_within (of_rows p m.a m.b _ _ a b got.of_both) got.count got.left (got.in_order m.a m.b is.lists a b) (got.others m.a m.b is.lists a b)
    (subst (λ (t : List Taken). c.add_places.new.places ≡ m.places ++ moved_from m.at.bytes t) taken c.in_ok-bytes.ensures.places) c.len.ensures (c.in_ok-bytes.ensures.bytes ∙ ap (λ (t : List Taken). m.at.bytes + sum_by (λ (u : Taken). u.place.bytes) t) taken)
    (posted_on m.words m.a m.b p m.postings c.go_on.new.postings is.lists is.posted posted (λ none. c.in_ok-go_on.ensures.all (c.left-left.ensures ∙ none)))

pub returns-clause-ok : goal.returns-clause-ok
returns-clause-ok c =
    let m = c.self.inside in
    let next : MergeMark = record { progress = c.in_ok-taken.progress; rows = c.len.result; bytes = c.in_ok-bytes.bytes } in
    let places = subst (λ (t : List Taken). c.add_places.new.places ≡ m.places ++ moved_from m.at.bytes t) c.deref.ensures.value c.in_ok-bytes.ensures.places in
    let rows = more_taken m.words m.a m.b m.at next m.places c.add_places.new.places c.in_ok-taken.taken.items c.args.n m.postings c.go_on.new.postings c.self.invariant m.at.progress.a_within m.at.progress.b_within c.in_ok-taken.ensures.count places
    c.len.ensures in
    ap (λ (k : ℕ). made m.words m.a m.b k) rows ∙ ap (with_more c.args.n) c.self.view_is

pub returns-clause-standing : goal.returns-clause-standing
returns-clause-standing c =
    let m = c.self.inside in
    let first = subst (λ (r : OutputRows). slice_get c.args.index.now.lists c.args.i ≡ Some r.a) (sym c.self.view_is) c.requires.first in
    let second = subst (λ (r : OutputRows). slice_get c.args.index.now.lists c.args.j ≡ Some r.b) (sym c.self.view_is) c.requires.second in
    let a = list_is c.places.result.now c.args.index.now.lists c.args.i m.a c.list-a.result.now c.places.ensures first c.list-a.ensures in
    let b = list_is c.places-2.result.now c.args.index.now.lists c.args.j m.b c.list-b.result.now c.places-2.ensures second c.list-b.ensures in
    let stand = c.in_ok-taken.ensures.in_order m.a m.b c.self.invariant.lists a b in
    subst (λ (r : OutputRows). AllZip (StandsTaken r.a r.b) c.in_ok-taken.taken.items (take c.args.n (left_rows r))) c.self.view_is
    (subst (λ l. AllZip (StandsTaken m.a m.b) c.in_ok-taken.taken.items (take c.args.n l)) c.self.invariant.mark_is.left_are stand)

pub go_on-requires-clause-lists : goal.go_on-requires-clause-lists
go_on-requires-clause-lists c a b a_is b_is =
    let m = c.self.inside in
    let first = subst (λ (r : OutputRows). slice_get c.args.index.now.lists c.args.i ≡ Some r.a) (sym c.self.view_is) c.requires.first in
    let second = subst (λ (r : OutputRows). slice_get c.args.index.now.lists c.args.j ≡ Some r.b) (sym c.self.view_is) c.requires.second in
    subst (λ (l : List StampedRow). AreLists (l ∷ b ∷ []) × (length l + length b < 2 ^ 32)) (found_same c.args.index.now.lists c.args.i m.a a first a_is)
    (subst (λ (l : List StampedRow). AreLists (m.a ∷ l ∷ []) × (length m.a + length l < 2 ^ 32)) (found_same c.args.index.now.lists c.args.j m.b b second b_is) (c.self.invariant.lists, few_rows m.a m.b c.self.invariant.short))
