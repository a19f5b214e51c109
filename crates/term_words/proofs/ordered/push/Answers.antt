use Rattle.std.proofs.Common.{refl, sym, ap, subst}
use Rattle.std.proofs.lemmas.Result.{on_err_weaker}
use Rattle.term_words.specs.declared.keys.Key.{Key}
use Rattle.term_words.specs.Laid.{IsSizeKey, IsWordKey, seen_in}
use Rattle.term_words.specs.Private.Chains.{key_of}
use Rattle.term_words.proofs.ordered.push.Goals as goal

pub push_size-requires-clause-size : goal.push_size-requires-clause-size
push_size-requires-clause-size c = subst (λ (k : Key). IsSizeKey (key_of k)) (sym c.in-Measure.is) refl

pub push_word-requires-clause-word : goal.push_word-requires-clause-word
push_word-requires-clause-word c = subst (λ (k : Key). IsWordKey (key_of k)) (sym c.in-Word.is) refl

pub returns-in-Measure-clause-err : goal.returns-in-Measure-clause-err
returns-in-Measure-clause-err c = on_err_weaker c.push_size.result (λ e. ap (λ xs. seen_in xs c.args.words.now) e) c.push_size.ensures.err

pub returns-in-Word-clause-err : goal.returns-in-Word-clause-err
returns-in-Word-clause-err c = on_err_weaker c.push_word.result (λ e. ap (seen_in c.args.sizes.now) e) c.push_word.ensures.err
