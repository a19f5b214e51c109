use Rattle.std.proofs.Common.{◌≡◌, sym, ap, subst, ◌∙◌}
use Rattle.std.specs.Prelude.{Some, slice_get}
use Rattle.as_of_index.proofs.Keyed.{has_got}
use Rattle.term_prefix.specs.Private.{HasHead}
use Rattle.term_prefix.proofs.Laid.{heads_at}
use Rattle.term_prefix.proofs.InTurns.{seen_at}
use Rattle.term_prefix.proofs.merging.Merging.next.Goals as goal

pub returns-in-Some-lent_at-2-clause-found : goal.returns-in-Some-lent_at-2-clause-found
returns-in-Some-lent_at-2-clause-found c =
    let self = c.self.inside in
    let a = c.a.inside in
    let b = c.b.inside in
    let t = c.in-Some.t.now in
    let u = c.in-Some-lent_at-2.u.now in
    let t_got : Some t ≡ slice_get a.terms.items self.taken.first = c.in-Some.ensures ∙ ap (λ ts. slice_get ts self.taken.first) c.as_slice.ensures.value in
    let u_got : Some u ≡ slice_get b.terms.items self.taken.second = c.in-Some-lent_at-2.ensures ∙ ap (λ ts. slice_get ts self.taken.second) c.as_slice-in-Some.ensures.value in
    let t_head = subst (λ text. HasHead text t) (sym c.as_slice-in-Some-lent_at-2.ensures.value) (heads_at a.text.items a.terms.items c.a.invariant.1 t (has_got a.terms.items self.taken.first t t_got)) in
    let u_head = subst (λ text. HasHead text u) (sym c.as_slice-in-Some-lent_at-2-2.ensures.value) (heads_at b.text.items b.terms.items c.b.invariant.1 u (has_got b.terms.items self.taken.second u u_got)) in
    let t_seen = seen_at a.text.items a.terms.items c.args.a.now self.taken.first t c.a.view_is t_got in
    let u_seen = seen_at b.text.items b.terms.items c.args.b.now self.taken.second u c.b.view_is u_got in
    rw (← c.self.view_is, t_seen, u_seen, ← c.as_slice-in-Some-lent_at-2.ensures.value, ← c.as_slice-in-Some-lent_at-2-2.ensures.value) (c.lesser_of.ensures t_head u_head)
