use Rattle.std.proofs.Common.{ℕ, ap, subst}
use Rattle.rf2_values.specs.declared.row.Kind.{Kind}
use Rattle.rf2_values.specs.Row.{RowValue, kind_of}
use Rattle.snapshot_check.specs.Private.{AddsId, AddsModule}
use Rattle.snapshot_check.proofs.Searching.{seen_more, same_ids}
use Rattle.snapshot_check.proofs.seen.Seen.add.Goals as goal

pub returns : goal.returns
returns c = λ rows seen.
    let row = c.args.row.now in
    let mid = c.add_id.new.self in
    let new = c.add_module.new.self in
    let with_kind = subst (λ (k : Kind). AddsId k c.row.inside.id c.args.self.now mid) c.kind.ensures.kind c.in_ok-add_id.ensures in
    seen_more rows row c.args.self.now mid new seen
    (subst (λ (i : ℕ). AddsId (kind_of row) i c.args.self.now mid) (ap (λ (v : RowValue). v.id) c.row.view_is) with_kind)
    (subst (λ (m : ℕ). AddsModule m mid.modules.items new.modules.items) (ap (λ (v : RowValue). v.module_id) c.row.view_is) c.in_ok-add_module.ensures.modules)
    (same_ids mid new c.in_ok-add_module.ensures.kept)
