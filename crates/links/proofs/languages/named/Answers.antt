use Rattle.std.proofs.Common.{◌≡◌, ◌+◌, [], ◌∷◌, sym, ap, subst, ◌∙◌, ◌++◌, take, take_all}
use Rattle.std.proofs.lemmas.List.{take_more}
use Rattle.as_of_index.specs.Private.Postings.{numbered}
use Rattle.as_of_index.specs.declared.chosen.Chosen.{Chosen}
use Rattle.links.specs.Private.{postings_in}
use Rattle.links.specs.Private.Memberships.{with_members, AreNamed}
use Rattle.links.proofs.NamedRows.{named_push}
use Rattle.links.proofs.languages.named.Goals as goal

pub loop-k-init : goal.loop-k-init
loop-k-init c = λ lists listed_so. c.new-kept.ensures.items

pub loop-k-preserved : goal.loop-k-preserved
loop-k-preserved c = λ lists listed_so.
    let a = c.args in
    let i = c.loop-k.k-index in
    let ks = a.descriptions.now in
    let k = c.k-item.result in
    let xs = numbered 0 (postings_in a.links.now) in
    let kept = c.loop-k.kept.items in
    let those = c.in_ok-those.those.items in
    let one_more : take (i + 1) ks ≡ take i ks ++ k ∷ [] = take_more ks i k c.loop-k-test.true ∙ ap (λ (x : Chosen). take i ks ++ x ∷ []) (sym c.k-item.is) in
    let pushed : c.push_with.new.kept.items ≡ kept ++ with_members k those = c.in_ok-push_with.ensures ∙ ap (λ ys. kept ++ with_members k ys) c.as_slice.ensures.value in
    subst (λ js. AreNamed lists a.refset a.as_of.now xs js c.push_with.new.kept.items) (sym one_more)
    (subst (λ ys. AreNamed lists a.refset a.as_of.now xs (take i ks ++ k ∷ []) ys) (sym pushed)
    (named_push lists a.refset a.as_of.now xs (take i ks) k kept those (c.loop-k.invariant lists listed_so) (rw c.asked_about-asked.ensures at (c.in_ok-those.ensures lists listed_so))))

pub returns : goal.returns
returns c = λ lists listed_so.
    let a = c.args in
    subst (λ ks. AreNamed lists a.refset a.as_of.now (numbered 0 (postings_in a.links.now)) ks c.loop-k.kept.items) (take_all c.loop-k.k-index a.descriptions.now c.loop-k-test.false) (c.loop-k.invariant lists listed_so)
