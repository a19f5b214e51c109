use Rattle.std.proofs.Common.{◌≡◌, length, refl, sym, subst, arith}
use Rattle.std.specs.Prelude.{Some, slice_get}
use Rattle.segment.proofs.Posting.{rows_at_most_bytes}
use Rattle.history_model.proofs.Listings.{two_lists}
use Rattle.merge.specs.Merged.{IsNew}
use Rattle.segment_index.proofs.Outputs.{AreComplete, new_output, none_complete, some_left, list_at}
use Rattle.segment_index.proofs.index_merge.IndexMerge.new.Goals as goal
use Rattle.segment_index.proofs.index_merge.IndexMerge.new.Goals.{then-is_done, else-is_done}

first_is : (c : goal.After-keeps_words) → slice_get c.args.index.now.lists c.args.i ≡ Some c.copy-a.result
first_is c = list_at c.args.index.now.lists c.rows-rows.result.now c.args.i c.index-rows-i.result c.copy-a.result c.rows-rows.ensures (omega (arith, c.requires.places, c.requires.within)) c.index-rows-i.is c.copy-a.ensures

second_is : (c : goal.After-keeps_words) → slice_get c.args.index.now.lists c.args.j ≡ Some c.copy-b.result
second_is c = list_at c.args.index.now.lists c.rows-rows.result.now c.args.j c.index-rows-j.result c.copy-b.result c.rows-rows.ensures c.requires.within c.index-rows-j.is c.copy-b.ensures

pub new-progress-requires : goal.new-progress-requires
new-progress-requires c =
    let first = list_at c.args.index.now.lists c.rows-rows.result.now c.args.i c.index-rows-i.result c.copy-a.result c.rows-rows.ensures (omega (arith, c.requires.places, c.requires.within)) c.index-rows-i.is c.copy-a.ensures in
    let second = list_at c.args.index.now.lists c.rows-rows.result.now c.args.j c.index-rows-j.result c.copy-b.result c.rows-rows.ensures c.requires.within c.index-rows-j.is c.copy-b.ensures in
    omega (arith, c.requires.short c.copy-a.result c.copy-b.result first second, rows_at_most_bytes c.copy-a.result, rows_at_most_bytes c.copy-b.result, c.len.ensures, c.len-2.ensures)

pub invariant_of-result : goal.invariant_of-result
invariant_of-result c =
    let a = c.copy-a.result in
    let b = c.copy-b.result in
    let progress = c.new-progress.result in
    let keeps = c.keeps_words.result in
    let new = subst (λ n. IsNew progress n (length b)) c.len.ensures (subst (λ n. IsNew progress c.len.result n) c.len-2.ensures c.new-progress.ensures) in
    let complete : AreComplete keeps a b progress c.if-is_done.postings = elim c.if-is_done.branch [
      | then-is_done w ↦ subst (AreComplete keeps a b progress) (sym w.postings-is) (none_complete keeps a b progress w.no_postings.result new (c.is_done.ensures.0 w.if-is_done.true) (w.no_postings.ensures keeps))
      | else-is_done w ↦ subst (AreComplete keeps a b progress) (sym w.postings-is) (some_left keeps a b progress (λ none. absurd (let on = c.is_done.ensures.1 none in let off = w.if-is_done.false in cc)))
    ] in
    new_output keeps a b _ c.new.result c.if-is_done.postings (two_lists c.args.index.now.lists c.args.i c.args.j a b c.requires.lists c.requires.places (first_is c) (second_is c)) (c.requires.short a b (first_is c) (second_is c)) new refl refl c.new.ensures complete

pub returns-clause-first : goal.returns-clause-first
returns-clause-first c = first_is c

pub returns-clause-second : goal.returns-clause-second
returns-clause-second c = second_is c
