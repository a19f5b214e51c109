use Rattle.std.proofs.Common.{◌≡◌, length, ap, ◌∙◌, arith}
use Rattle.term_words.specs.Laid.{postings_in}
use Rattle.term_words.proofs.Chained.{postings-count}
use Rattle.term_words.proofs.listing.Listing.len.Goals as goal

pub returns : goal.returns
returns c =
    let self = c.self.inside in
    let count = postings-count self.text.items self.rows.items 0 self.entries.items (length self.rows.items) c.self.invariant.chained (omega arith) in
    let same : length self.rows.items ≡ length (postings_in self.text.items self.entries.items self.rows.items) = omega (arith, count) in
    c.len.ensures ∙ self.rows.ok.0 ∙ same ∙ ap length c.self.view_is
