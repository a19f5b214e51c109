use Rattle.std.proofs.Common.{◌≡◌, Some, ◌∙◌, arith, rules}
use Rattle.index_support.proofs.Keeping.{kept_row, kept_up, kept_within}
use Rattle.index_support.proofs.kept.KeptRowsRowReader.row.Goals as goal
use Rattle.index_support.proofs.kept.KeptRowsRowReader.row.Goals.{then-segment-self+in_default, else-segment-self}

pub returns-in-Some-clause-returned : goal.returns-in-Some-clause-returned
returns-in-Some-clause-returned c = record {
  keyed = search rules;
  may_be = tt;
  exact = λ are s w.
      let e = kept_row c.args.self.now.lists.now c.args.segment c.args.at s c.index-self-segment.result are w in
      let up = kept_up c.args.self.now.lists.now c.args.segment c.args.at s c.index-self-segment.result are w in
      let f = (rw c.as_slice.ensures.value at c.in-Some.ensures.first) up in
      let g : Some c.in-Some.found.now ≡ Some s = f ∙ e in
      let same : c.in-Some.found.now ≡ s = cc in
      c.in_ok-try_clone.ensures ∙ same;
}

pub returns-clause-undamaged : goal.returns-clause-undamaged
returns-clause-undamaged c = λ are s w _.
    elim c.if-segment-self.branch [
      | then-segment-self+in_default d ↦
          (let e = kept_row c.args.self.now.lists.now c.args.segment c.args.at s d.index-self-segment.result are w in
          let up = kept_up c.args.self.now.lists.now c.args.segment c.args.at s d.index-self-segment.result are w in
          let f = (rw d.as_slice.ensures.value at d.in_default.ensures.first) up in
          let g = f ∙ e in
          absurd (cc))
      | else-segment-self d ↦ (let lt = kept_within c.args.self.now.lists.now c.args.segment w.rows w.list_is in let ge = d.if-segment-self.false in omega arith)
    ]
