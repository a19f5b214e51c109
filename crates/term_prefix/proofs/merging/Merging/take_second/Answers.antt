use Rattle.std.proofs.Common.{◌≡◌, ◌+◌, map, take, drop, sym, ap, ◌∙◌}
use Rattle.std.specs.Prelude.{Some, slice_get}
use Rattle.as_of_index.specs.Numbers.{number_in_both}
use Rattle.term_prefix.specs.Laid.{term_at}
use Rattle.term_prefix.specs.Merged.{MergedTerms}
use Rattle.term_prefix.specs.Private.{second_taken}
use Rattle.term_prefix.proofs.Laid.{laid_after}
use Rattle.term_prefix.proofs.InTurns.{seen_at, none_seen, put_out}
use Rattle.term_prefix.proofs.merging.Merging.take_second.Goals as goal

pub invariant_of-self-in-Some : goal.invariant_of-self-in-Some
invariant_of-self-in-Some c = laid_after c.push_term.result c.self.inside.text.items c.self.inside.terms.items c.piece-folded.result.now c.of_second-row.result c.push_term.new.text.items c.push_term.new.terms.items c.push_term.ensures.ok c.push_term.ensures.err c.self.invariant

pub returns-in_ok-push_term-clause-ok : goal.returns-in_ok-push_term-clause-ok
returns-in_ok-push_term-clause-ok c = λ t there.
    let self = c.self.inside in
    let b = c.b.inside in
    let u = c.in-Some.t.now in
    let numbers = c.args.numbers.now in
    let place_is : self.taken.second ≡ c.args.self.now.taken.second = ap (λ (m : MergedTerms). m.taken.second) c.self.view_is in
    let got : Some u ≡ slice_get b.terms.items self.taken.second = c.in-Some.ensures ∙ ap (λ ts. slice_get ts self.taken.second) c.as_slice.ensures.value in
    let same : Some (term_at b.text.items u) ≡ Some t = sym (seen_at b.text.items b.terms.items c.args.b.now self.taken.second u c.b.view_is got) ∙ ap (slice_get c.args.b.now) place_is ∙ there in
    let text_is : c.piece-folded.result.now ≡ (term_at b.text.items u).folded = c.piece-folded.ensures ∙ ap (λ text. take u.len (drop u.start text)) c.as_slice-in-Some.ensures.value in
    let out = put_out self.text.items self.terms.items c.piece-folded.result.now c.of_second-row.result c.push_term.new.text.items c.push_term.new.terms.items (number_in_both numbers.second numbers.first) t (term_at b.text.items u) c.self.invariant c.in_ok-push_term.ensures.ok text_is c.of_second-row.ensures same in
    let whole : ◌≡◌ {A = MergedTerms} (record { terms = map (term_at c.push_term.new.text.items) c.push_term.new.terms.items; taken = record { first = self.taken.first; second = self.taken.second + 1 } }) (second_taken numbers t (record { terms = map (term_at self.text.items) self.terms.items; taken = record { first = self.taken.first; second = self.taken.second } })) = λ i. record { terms = out i; taken = record { first = self.taken.first; second = self.taken.second + 1 } } in
    whole ∙ ap (second_taken numbers t) c.self.view_is

pub returns-in_default-clause-ok : goal.returns-in_default-clause-ok
returns-in_default-clause-ok c = λ t there.
    let self = c.self.inside in
    let b = c.b.inside in
    let place_is : self.taken.second ≡ c.args.self.now.taken.second = ap (λ (m : MergedTerms). m.taken.second) c.self.view_is in
    absurd (none_seen b.text.items b.terms.items c.args.b.now self.taken.second t c.b.view_is (c.in_default.ensures ∙ ap (λ ts. slice_get ts self.taken.second) c.as_slice.ensures.value) (ap (slice_get c.args.b.now) place_is ∙ there))
