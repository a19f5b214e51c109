use Rattle.std.specs.Prelude.{Option}
use Rattle.std.specs.Option.{option_to_list}
use Rattle.std.proofs.Common.{ℕ, List, ◌++◌, refl, sym, ap, ◌∙◌, arith}
use Rattle.std.proofs.lemmas.List.{take_all}
use Rattle.std.proofs.lemmas.Bool.Decides.{nat_tests}
use Rattle.directory.specs.declared.entry.Entry.{Entry}
use Rattle.blocks.specs.declared.extent.Extent.{Extent}
use Rattle.directory.specs.Places.{extents_of}
use Rattle.history_store.specs.Merging.{end_of_taken}
use Rattle.history_store.proofs.EndOf.{end_step, end_reserved}
use Rattle.history_store.proofs.taken_blocks.end_of.Goals as goal

pub loop-entry-preserved : goal.loop-entry-preserved
loop-entry-preserved c =
    let more = end_step c.args.entries.now c.loop-entry.entry-index c.extent.result _ _ c.extent.ensures c.loop-entry-test.true refl in
    record {
      end = omega (arith, more, c.max-end.ensures, c.end.ensures.end, c.loop-entry.invariant.end);
      fits = omega (arith, c.max-end.ensures, c.end.ensures.fits, c.loop-entry.invariant.fits);
    }

pub returns-in-Some-clause-end : goal.returns-in-Some-clause-end
returns-in-Some-clause-end c =
    let all = end_reserved c.args.entries.now c.in-Some.extent in
    let P : Option Extent → ℕ = λ o. end_of_taken (extents_of c.args.entries.now ++ option_to_list o) in
    let reserved = ap P c.in-Some.is in
    let whole = ap (λ (l : List Entry). end_of_taken (extents_of l)) (take_all c.loop-entry.entry-index c.args.entries.now (grind (arith, nat_tests, c.loop-entry-test.false))) in
    sym (reserved ∙ all ∙ omega (arith, whole, c.max.ensures, c.end-in-Some.ensures.end, c.loop-entry.invariant.end))
