use Rattle.std.proofs.Common.{◌≡◌, ◌+◌, List, ◌∷◌, ◌++◌, [], length, ap, ◌∙◌, arith}
use Rattle.std.proofs.lemmas.Option.{slice_get_within}
use Rattle.term_prefix.specs.Terms.{TermAt}
use Rattle.term_prefix.specs.Merged.{MergedTerms}
use Rattle.term_prefix.specs.Private.{second_taken}
use Rattle.term_words.specs.Posted.{keyed}
use Rattle.term_words.specs.Private.Chains.{key_of}
use Rattle.term_words.proofs.merging.Merging.take_second.Goals as goal

pub overflow_add-next : goal.overflow_add-next
overflow_add-next c =
    let u = c.args.u in
    let lt = slice_get_within c.args.b.now c.args.self.now.taken.second (keyed u.row (key_of u.key)) c.requires in
    let at = ap (λ (m : MergedTerms). m.taken.second) c.self.view_is in
    let many = c.len-many.ensures.count in
    let same = ap (λ (ts : List TermAt). length ts) c.b.view_is in
    omega (arith, lt, at, many, same)

pub returns-clause-ok : goal.returns-clause-ok
returns-clause-ok c =
    let self = c.self.inside in
    let u = c.args.u in
    let numbers = c.args.numbers.now in
    let posting = keyed u.row (key_of u.key) in
    let out = c.in_ok-push.ensures.ok ∙ ap (λ n. self.list ++ keyed n (key_of u.key) ∷ []) c.of_second.ensures in
    let whole : ◌≡◌ {A = MergedTerms} (record { terms = c.push.new.self; taken = record { first = self.taken.first; second = self.taken.second + 1 } }) (second_taken numbers posting (record { terms = self.list; taken = record { first = self.taken.first; second = self.taken.second } })) = λ i. record { terms = out i; taken = record { first = self.taken.first; second = self.taken.second + 1 } } in
    whole ∙ ap (second_taken numbers posting) c.self.view_is
