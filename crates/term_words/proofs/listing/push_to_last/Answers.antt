use Rattle.std.proofs.Common.{◌∷◌, ◌++◌, [], length, sym, ap, subst, ◌∙◌, arith}
use Rattle.term_words.specs.Laid.{postings_in}
use Rattle.term_words.specs.Private.Chains.{AreEntries, key_of}
use Rattle.term_words.specs.Posted.{keyed}
use Rattle.term_words.proofs.Chained.{chain-last, grown_postings, grown_are}
use Rattle.term_words.proofs.listing.push_to_last.Goals as goal

pub lengthen-requires : goal.lengthen-requires
lengthen-requires c = λ before e is.
    let are = subst (λ xs. AreEntries c.args.text.now xs c.args.rows.now.items) is c.requires.entries in
    let last = (chain-last 0 before e (length c.args.rows.now.items) are.chained).2 in
    let few = c.requires.few in
    omega (arith, last, few)

pub returns-clause-ok : goal.returns-clause-ok
returns-clause-ok c =
    let text = c.args.text.now in
    let rows = c.args.rows.now.items in
    let l = c.requires.last in
    let are = subst (λ xs. AreEntries text xs rows) l.entries_are c.requires.entries in
    let grew = c.lengthen.ensures l.before l.last l.entries_are in
    (λ i. postings_in text (grew i) (c.in_ok-push.ensures.items i))
    ∙ grown_postings text rows l.before l.last c.args.row (key_of c.args.key) are l.same
    ∙ ap (λ xs. postings_in text xs rows ++ keyed c.args.row (key_of c.args.key) ∷ []) (sym l.entries_are)

pub returns-clause-entries : goal.returns-clause-entries
returns-clause-entries c =
    let text = c.args.text.now in
    let rows = c.args.rows.now.items in
    let l = c.requires.last in
    let are = subst (λ xs. AreEntries text xs rows) l.entries_are c.requires.entries in
    let grew = c.lengthen.ensures l.before l.last l.entries_are in
    subst (λ rs. AreEntries text c.lengthen.new.entries.items rs) (sym c.in_ok-push.ensures.items)
    (subst (λ xs. AreEntries text xs (rows ++ c.args.row ∷ [])) (sym grew) (grown_are text rows l.before l.last c.args.row are))
