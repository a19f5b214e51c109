use Rattle.std.proofs.Common.{map, sym, ap, ◌∙◌}
use Rattle.std.specs.Prelude.{slice_get}
use Rattle.std.proofs.lemmas.Option.{slice_get-map}
use Rattle.term_prefix.specs.Terms.{TermAt}
use Rattle.term_words.proofs.Chained.{rows-posted}
use Rattle.term_words.proofs.listing.Listing.row.Goals as goal

pub returns : goal.returns
returns c =
    let self = c.self.inside in
    c.row_at.ensures
    ∙ ap (λ rs. slice_get rs c.args.number) (c.as_slice.ensures.value ∙ sym (rows-posted self.text.items self.rows.items self.entries.items c.self.invariant) ∙ ap (map (λ (t : TermAt). t.row)) c.self.view_is)
    ∙ slice_get-map (λ (t : TermAt). t.row) c.args.self.now c.args.number
