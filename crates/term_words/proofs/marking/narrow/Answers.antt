use Rattle.std.proofs.Common.{◌≡◌, [], get_or, length, refl, sym, ap, subst, ◌∙◌, take_all}
use Rattle.std.specs.Prelude.{flat_map}
use Rattle.term_words.specs.declared.keys.KeyAt.TheVariants as places
use Rattle.term_words.specs.declared.listing.Entry.{Entry}
use Rattle.term_words.specs.Laid.{rows_of}
use Rattle.term_words.specs.Private.{all_in, AddsMarks}
use Rattle.term_words.proofs.Marks.{zeros, adds_none, adds_entry, narrowed_by}
use Rattle.term_words.proofs.marking.narrow.Goals as goal

pub loop-e-init : goal.loop-e-init
loop-e-init c =
    let none : c.clear.new.marks.items ≡ zeros (length c.args.among.now) = c.clear.ensures ∙ ap zeros c.requires.many in
    subst (λ ms. AddsMarks (zeros (length c.args.among.now)) c.args.among.now [] ms) (sym none) (adds_none (zeros (length c.args.among.now)) c.args.among.now)

pub loop-e-preserved : goal.loop-e-preserved
loop-e-preserved c =
    let those = c.begun-those.result.now in
    let rows = c.args.words.rows.now in
    let i = c.loop-e.e-index in
    let d : Entry = record { key = places.Measure 0 0; first = 0; count = 0 } in
    adds_entry (zeros (length c.args.among.now)) c.loop-e.marks.items c.mark_ranks.new.marks.items c.args.among.now rows those i (get_or those i d) d c.loop-e-test.true refl c.loop-e.invariant
    (rw c.rows_of.ensures at c.mark_ranks.ensures)

pub returns : goal.returns
returns c =
    let parts = c.args.words in
    let those = c.begun-those.result.now in
    narrowed_by parts.text.now parts.rows.now parts.entries.now those (all_in parts) c.args.among.now c.loop-e.marks.items _ refl (c.begun-those.ensures c.requires.rising)
    (subst (λ es. AddsMarks (zeros (length c.args.among.now)) c.args.among.now (flat_map (rows_of parts.rows.now) es) c.loop-e.marks.items) (take_all c.loop-e.e-index those c.loop-e-test.false) c.loop-e.invariant)
