use Rattle.std.proofs.Common.{◌≡◌, ℕ, Bool, true, false, sym, ap, subst, ◌∙◌}
use Rattle.std.specs.Prelude.{◌==◌, ◌&&◌, not}
use Rattle.std.specs.List.{list_any}
use Rattle.rf2_values.specs.declared.key.Key.{Key}
use Rattle.rf2_values.specs.Row.{RowValue, kind_of}
use Rattle.snapshot_check.specs.declared.seen.Seen.{Seen}
use Rattle.snapshot_check.specs.Private.{ids_of}
use Rattle.snapshot_check.proofs.Searching.{more_by_ids}
use Rattle.snapshot_check.proofs.seen.Seen.is_more.Goals as goal

-- whether a component was seen, by its key
abbrev there : Seen → Key → Bool
there seen key = list_any (λ other. other == key.id) (ids_of seen key.kind)

pub returns-then-names : goal.returns-then-names
returns-then-names c = λ rows sorted.
    let row = c.args.row.now in
    let seen = c.args.self.now in
    let named = subst (λ (m : ℕ). list_any (λ n. n == m) seen.modules.items ≡ true) (ap (λ (v : RowValue). v.module_id) c.row.view_is) (sym c.names.ensures ∙ c.if-names.true) in
    let has = c.has.ensures (sorted.sorted c.key-key.result.kind) ∙ ap (there seen) c.key-key.ensures.key in
    ap not has ∙ sym (ap (λ b. b && not (list_any (λ other. other == row.id) (ids_of seen (kind_of row)))) named) ∙ more_by_ids rows row seen sorted

pub returns-else-names : goal.returns-else-names
returns-else-names c = λ rows sorted.
    let row = c.args.row.now in
    let seen = c.args.self.now in
    let named = subst (λ (m : ℕ). list_any (λ n. n == m) seen.modules.items ≡ false) (ap (λ (v : RowValue). v.module_id) c.row.view_is) (sym c.names.ensures ∙ c.if-names.false) in
    sym (ap (λ b. b && not (list_any (λ other. other == row.id) (ids_of seen (kind_of row)))) named) ∙ more_by_ids rows row seen sorted
