use Rattle.std.proofs.Common.{◌∷◌, ◌++◌, [], ap, ◌∙◌}
use Rattle.std.proofs.lemmas.Result.{on_ok_weaker, on_err_weaker}
use Rattle.term_words.specs.Posted.{keyed}
use Rattle.term_words.specs.Private.Chains.{key_of}
use Rattle.term_words.proofs.ordered.Ordered.push.Goals as goal

pub invariant_of-self : goal.invariant_of-self
invariant_of-self c = c.push.ensures.parted c.self.invariant

pub returns-clause-ok : goal.returns-clause-ok
returns-clause-ok c = on_ok_weaker c.push.result (λ e. e ∙ ap (λ xs. xs ++ keyed c.args.row (key_of c.args.key) ∷ []) c.self.view_is) c.push.ensures.ok

pub returns-clause-err : goal.returns-clause-err
returns-clause-err c = on_err_weaker c.push.result (λ e. e ∙ c.self.view_is) c.push.ensures.err
