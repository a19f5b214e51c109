use Rattle.std.proofs.Common.{◌≤◌, sym, subst}
use Rattle.segment_index.specs.Output.{OutputRows, IsMarkOf}
use Rattle.segment_index.proofs.Outputs.{cut_output}
use Rattle.segment_index.proofs.index_merge.IndexMerge.cut_to.Goals as goal

pub invariant_of-self : goal.invariant_of-self
invariant_of-self c =
    let m = c.self.inside in
    let at = subst (λ (r : OutputRows). IsMarkOf (record r { taken = c.args.mark.rows }) c.args.mark) (sym c.self.view_is) c.requires.mark in
    let fewer = subst (λ (r : OutputRows). c.args.mark.rows ≤ r.taken) (sym c.self.view_is) c.requires.rows in
    cut_output m.words m.a m.b m.at c.args.mark m.places c.cut_to.new.self m.postings c.self.invariant m.at.progress.a_within m.at.progress.b_within c.args.mark.progress.a_within c.args.mark.progress.b_within fewer at c.cut_to.ensures
