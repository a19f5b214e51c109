use Rattle.std.proofs.Common.{◌≡◌, true, false, refl, sym, ◌∙◌}
use Rattle.list_lemmas.proofs.Each.{each_at_place}
use Rattle.directory.specs.declared.entry.Entry.{Entry}
use Rattle.directory.specs.Listings.{HasForm}
use Rattle.directory.proofs.Written.{all_next}
use Rattle.directory.proofs.decoding.have_forms.Goals as goal

pub loop-entry-preserved : goal.loop-entry-preserved
loop-entry-preserved c = all_next (HasForm c.args.layout) c.args.entries.now c.loop-entry.entry-index _ c.loop-entry-test.true c.loop-entry.invariant (c.has_form.ensures.0 c.if-not-has_form.false)

pub returns-then-not-has_form : goal.returns-then-not-has_form
returns-then-not-has_form c = (
  λ e. absurd cc,
  λ all.
      let yes = c.has_form.ensures.1 (each_at_place (HasForm c.args.layout) c.args.entries.now c.loop-entry.entry-index _ c.loop-entry-test.true all) in
      sym c.if-not-has_form.true ∙ yes,
)
