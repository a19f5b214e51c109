use Rattle.std.proofs.Common.{◌≡◌, ◌∙◌, ap}
use Rattle.std.specs.Ordering.{nat_cmp, ordering_then}
use Rattle.std.specs.declared.cmp.Ordering.{Ordering}
use Rattle.rf2_values.specs.Key.{kind_place}
use Rattle.rf2_values.proofs.KindOrder.{kinds_by_place}
use Rattle.rf2_values.proofs.key.Key.compare.Goals as goal

pub returns : goal.returns
returns c =
    let a = c.args.self.now in
    let b = c.args.other.now in
    let kinds : c.cmp-3.result ≡ nat_cmp (kind_place a.kind) (kind_place b.kind) = c.cmp-3.ensures ∙ kinds_by_place a.kind b.kind in
    let ids : c.cmp.result ≡ nat_cmp a.id b.id = c.cmp.ensures in
    let times : c.cmp-2.result ≡ nat_cmp a.time b.time = c.cmp-2.ensures in
    let later : c.then-ids.result ≡ ordering_then (nat_cmp a.id b.id) (nat_cmp a.time b.time) =
    c.then-ids.ensures ∙ ap (λ (r : Ordering). ordering_then r c.cmp-2.result) ids ∙ ap (λ (r : Ordering). ordering_then (nat_cmp a.id b.id) r) times in
    c.then.ensures ∙ ap (λ (r : Ordering). ordering_then r c.then-ids.result) kinds ∙ ap (λ (r : Ordering). ordering_then (nat_cmp (kind_place a.kind) (kind_place b.kind)) r) later
