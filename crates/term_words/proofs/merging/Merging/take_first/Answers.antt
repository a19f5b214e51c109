use Rattle.std.proofs.Common.{◌≡◌, ◌+◌, List, ◌∷◌, ◌++◌, [], length, ap, ◌∙◌, arith}
use Rattle.std.proofs.lemmas.Option.{slice_get_within}
use Rattle.term_prefix.specs.Terms.{TermAt}
use Rattle.term_prefix.specs.Merged.{MergedTerms}
use Rattle.term_prefix.specs.Private.{first_taken}
use Rattle.term_words.specs.Posted.{keyed}
use Rattle.term_words.specs.Private.Chains.{key_of}
use Rattle.term_words.proofs.merging.Merging.take_first.Goals as goal

pub overflow_add-next : goal.overflow_add-next
overflow_add-next c =
    let t = c.args.t in
    let lt = slice_get_within c.args.a.now c.args.self.now.taken.first (keyed t.row (key_of t.key)) c.requires in
    let at = ap (λ (m : MergedTerms). m.taken.first) c.self.view_is in
    let many = c.len-many.ensures.count in
    let same = ap (λ (ts : List TermAt). length ts) c.a.view_is in
    omega (arith, lt, at, many, same)

pub returns-clause-ok : goal.returns-clause-ok
returns-clause-ok c =
    let self = c.self.inside in
    let t = c.args.t in
    let numbers = c.args.numbers.now in
    let posting = keyed t.row (key_of t.key) in
    let out = c.in_ok-push.ensures.ok ∙ ap (λ n. self.list ++ keyed n (key_of t.key) ∷ []) c.of_first.ensures in
    let whole : ◌≡◌ {A = MergedTerms} (record { terms = c.push.new.self; taken = record { first = self.taken.first + 1; second = self.taken.second } }) (first_taken numbers posting (record { terms = self.list; taken = record { first = self.taken.first; second = self.taken.second } })) = λ i. record { terms = out i; taken = record { first = self.taken.first + 1; second = self.taken.second } } in
    whole ∙ ap (first_taken numbers posting) c.self.view_is
