use Rattle.std.proofs.Common.{length, sym, ap, subst, ◌∙◌, take}
use Rattle.term_words.specs.Laid.{keys_in, all_pushed_in, ArePushed}
use Rattle.term_words.proofs.Numbering.{take_map, take_numbered}
use Rattle.term_words.proofs.postings.Postings.cut_to.Goals as goal

pub invariant_of-self : goal.invariant_of-self
invariant_of-self c =
    let self = c.self.inside in
    subst (λ ps. ArePushed self.text.items self.keys.items ps) (sym c.truncate.ensures.items) (record { within = c.self.invariant.within; numbered = take_numbered (length self.keys.items) c.args.len self.pushed.items c.self.invariant.numbered })

pub returns : goal.returns
returns c =
    let self = c.self.inside in
    ap (all_pushed_in (keys_in self.text.items self.keys.items)) c.truncate.ensures.items ∙ take_map (keys_in self.text.items self.keys.items) c.args.len self.pushed.items ∙ ap (take c.args.len) c.self.view_is
