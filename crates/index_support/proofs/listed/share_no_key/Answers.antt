use Rattle.std.proofs.Common.{take, sym, subst, ◌∙◌}
use Rattle.list_lemmas.proofs.Parts.{take_one_more}
use Rattle.as_of_index.specs.Private.Search.{ShareNoKey}
use Rattle.index_support.proofs.Apart.{Has-taken, none_shared}
use Rattle.index_support.proofs.listed.share_no_key.Goals as goal

pub returns-then-has_key : goal.returns-then-has_key
returns-then-has_key c =
    let p = c.p-item.result in (
      λ h. absurd (cc),
      λ apart. absurd (
          let w = c.has_key.ensures.0 c.if-has_key.true in
          apart p w.0 (Has-taken c.args.list.now c.loop-p.p-index p c.loop-p-test.true c.p-item.is) w.1 (sym w.2)),
    )

pub loop-p-preserved : goal.loop-p-preserved
loop-p-preserved c =
    let list = c.args.list.now in
    let p = c.p-item.result in
    subst (λ xs. ShareNoKey xs c.args.other.now) (sym (take_one_more list c.loop-p.p-index p c.loop-p-test.true c.p-item.is))
    (none_shared (take c.loop-p.p-index list) c.args.other.now p c.loop-p.invariant (λ q h e. let both = sym (c.has_key.ensures.1 (q, h, sym e)) ∙ c.if-has_key.false in absurd (cc)))
