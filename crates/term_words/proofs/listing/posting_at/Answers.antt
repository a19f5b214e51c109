use Rattle.std.proofs.Common.{◌≡◌, length, sym, ap, ◌∙◌, arith}
use Rattle.std.specs.Prelude.{Some, slice_index_or}
use Rattle.std.proofs.lemmas.Option.{slice_get_past, slice_get-get_or, same_Some}
use Rattle.term_words.specs.declared.listing.Entry.{Entry}
use Rattle.term_words.specs.Posted.{keyed}
use Rattle.term_words.specs.Laid.{key_in, postings_in}
use Rattle.term_words.proofs.Chained.{postings-count, posting-at}
use Rattle.term_words.proofs.listing.posting_at.Goals as goal

pub returns-then-number-rows : goal.returns-then-number-rows
returns-then-number-rows c = λ are.
    let text = c.args.text.now in
    let entries = c.args.entries.now in
    let rows = c.args.rows.now in
    let count = postings-count text rows 0 entries (length rows) are.chained (omega arith) in
    let past = c.if-number-rows.true in
    slice_get_past (postings_in text entries rows) c.args.number (omega (arith, count, past))

pub returns-in-Some : goal.returns-in-Some
returns-in-Some c = λ are.
    let text = c.args.text.now in
    let entries = c.args.entries.now in
    let rows = c.args.rows.now in
    let number = c.args.number in
    let lt = c.if-number-rows.false in
    let w = c.entry_of-entry.ensures (length rows) are.chained (omega (arith, lt)) in
    let e = c.in-Some.e.now in
    let same : w.0 ≡ e = same_Some w.0 e (sym w.1 ∙ sym c.in-Some.ensures) in
    let row = slice_index_or rows number 0 in
    posting-at text rows entries c.entry_of-entry.result number w.0 row are.chained w.1 w.2 w.3 (slice_get-get_or rows number 0 (omega (arith, lt)))
    ∙ ap (λ (x : Entry). Some (keyed row (key_in text x.key))) same
    ∙ ap (λ k. Some (keyed row k)) (sym c.key_in.ensures)

pub returns-in-None : goal.returns-in-None
returns-in-None c = λ are.
    let rows = c.args.rows.now in
    let lt = c.if-number-rows.false in
    let w = c.entry_of-entry.ensures (length rows) are.chained (omega (arith, lt)) in
    absurd (let none = c.in-None.ensures ∙ w.1 in cc)
