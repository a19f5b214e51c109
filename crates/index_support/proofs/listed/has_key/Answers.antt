use Rattle.std.proofs.Common.{◌≡◌, sym, subst, ◌∙◌}
use Rattle.std.specs.Prelude.{Some, None}
use Rattle.std.specs.Cmp.{tied_itself}
use Rattle.std.specs.declared.cmp.Ordering.TheVariants.{Equal}
use Rattle.rf2_values.specs.declared.key.Key.{Key}
use Rattle.rf2_values.specs.Key.{key_cmp}
use Rattle.rf2_values.specs.Private.{keys_total}
use Rattle.history_model.proofs.Keys.{same_key}
use Rattle.segment.specs.declared.place.RowPlace.{RowPlace}
use Rattle.as_of_index.proofs.Keyed.{has_got}
use Rattle.index_support.proofs.Finding.{found_at}
use Rattle.index_support.proofs.listed.has_key.Goals as goal

pub returns-in-Some : goal.returns-in-Some
returns-in-Some c =
    let list = c.args.list.now in
    let key = c.args.key in
    let i = c.place_of_key.result in
    let p = c.in-Some.p in (
      λ t. (p, has_got list i p c.in-Some.ensures, same_key p.key key (c.is_key.ensures.0 t)),
      λ w. c.is_key.ensures.1 (
          let got = found_at (λ (q : RowPlace). q.key) key list i w.0 c.requires (c.place_of_key.ensures c.requires) w.1 w.2 in
          let e : Some p ≡ Some w.0 = c.in-Some.ensures ∙ got in
          let same : p ≡ w.0 = cc in
          subst (λ (q : RowPlace). key_cmp q.key key ≡ Equal) (sym same) (subst (λ (k : Key). key_cmp w.0.key k ≡ Equal) w.2 (tied_itself keys_total w.0.key))),
    )

pub returns-in-None : goal.returns-in-None
returns-in-None c = (
  λ h. absurd (cc),
  λ w. absurd (
      let got = found_at (λ (q : RowPlace). q.key) c.args.key c.args.list.now c.place_of_key.result w.0 c.requires (c.place_of_key.ensures c.requires) w.1 w.2 in
      let e : None ≡ Some w.0 = c.in-None.ensures ∙ got in
      cc),
)
