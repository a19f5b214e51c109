use Rattle.std.proofs.Common.{sym, subst}
use Rattle.term_words.specs.Private.{KeepsKeys}
use Rattle.term_words.proofs.Numbering.{same_keys}
use Rattle.term_words.proofs.known.add.Goals as goal

pub returns-in_err-laid-clause-kept : goal.returns-in_err-laid-clause-kept
returns-in_err-laid-clause-kept c =
    let text = c.args.text.now.items in
    let keys = c.args.keys.now.items in
    subst (λ t. KeepsKeys text keys t c.reserve.new.self.items) (sym c.in_err-laid.ensures.err) (subst (λ ks. KeepsKeys text keys text ks) (sym c.in_ok-reserve.ensures.items) (same_keys text keys))
