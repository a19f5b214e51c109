use Rattle.std.proofs.Common.{◌++◌, ◌∷◌, [], length, refl, sym, ap, ◌∙◌}
use Rattle.segment.specs.declared.place.RowPlace.{RowPlace}
use Rattle.as_of_index.proofs.Shown.{least_push}
use Rattle.as_of_index.proofs.Changed.{greatest_push}
use Rattle.as_of_index.proofs.place_list_builder.PlaceListBuilder.push.Goals as goal

pub invariant_of-self-2 : goal.invariant_of-self-2
invariant_of-self-2 c =
    let before = c.self.inside.places.items in
    let place = c.args.place in
    let more = c.in-Ok.ensures.items ∙ ap (λ xs. xs ++ place ∷ []) c.in_ok-reserve.ensures.items in
    let count = ap length c.self.view_is ∙ sym c.len-number.ensures in
    let time = least_push (λ (p : RowPlace). p.key.time) before place in
    let last = greatest_push (λ (p : RowPlace). p.key.time) before place in
    let import = least_push (λ (p : RowPlace). p.import) before place in
    record {
      time = rw (c.min-self-inside.ensures, c.time_of.ensures, c.self.invariant.time, more, time) refl;
      last = rw (c.max-self-inside.ensures, c.time_of-2.ensures, c.self.invariant.last, more, last) refl;
      import = rw (c.min-self-inside-2.ensures, c.self.invariant.import, more, import) refl;
      dates = rw more (c.in_ok-note_remembered.ensures.ok before count c.self.invariant.dates);
    }
