use Rattle.std.proofs.Common.{map, sym, ap, ◌∙◌}
use Rattle.term_prefix.specs.Terms.{TermAt}
use Rattle.term_words.proofs.Chained.{rows-posted}
use Rattle.term_words.proofs.listing.Listing.row_numbers.Goals as goal

pub returns : goal.returns
returns c =
    let self = c.self.inside in
    c.as_slice.ensures.value ∙ sym (rows-posted self.text.items self.rows.items self.entries.items c.self.invariant) ∙ ap (map (λ (t : TermAt). t.row)) c.self.view_is
