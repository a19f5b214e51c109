use Rattle.std.proofs.Common.{◌++◌, length, map, sym, ap, subst, ◌∙◌}
use Rattle.word_model.specs.Words.{words}
use Rattle.term_words.specs.Posted.{word_key}
use Rattle.term_words.specs.Laid.{keys_in, EachEndsWithin}
use Rattle.term_words.proofs.splitting.Keys.set_to.Goals as goal

pub invariant_of-self-in-Err : goal.invariant_of-self-in-Err
invariant_of-self-in-Err c = subst (λ ks. EachEndsWithin (length c.add_words.new.text.items) ks) (sym c.clear-in-Err.ensures.items) tt

pub returns-in-Ok : goal.returns-in-Ok
returns-in-Ok c =
    (c.in-Ok.ensures (subst (λ ks. EachEndsWithin (length c.clear.new.self.items) ks) (sym c.clear-2.ensures.items) tt)).0
    ∙ ap (λ ks. keys_in c.clear.new.self.items ks ++ map word_key (words c.args.term.now)) c.clear-2.ensures.items
