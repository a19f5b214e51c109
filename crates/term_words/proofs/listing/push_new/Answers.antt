use Rattle.std.proofs.Common.{◌≡◌, ◌∷◌, ◌++◌, [], length, sym, ap, subst, ◌∙◌}
use Rattle.term_words.specs.Laid.{postings_in}
use Rattle.term_words.specs.Private.Chains.{AreEntries}
use Rattle.term_words.proofs.Chained.{new_entry, added_postings, added_are}
use Rattle.term_words.proofs.listing.push_new.Goals as goal

pub returns-clause-ok : goal.returns-clause-ok
returns-clause-ok c =
    let text = c.args.text.now.items in
    let entries = c.args.entries.now.items in
    let rows = c.args.rows.now.items in
    let at = c.in_ok-key.key in
    let rows_are : c.push-2.new.self.items ≡ rows ++ c.args.row ∷ [] = c.in-Ok-push.ensures.items ∙ ap (λ xs. xs ++ c.args.row ∷ []) c.in_ok-reserve.ensures.items in
    let entries_are : c.push.new.self.items ≡ entries ++ new_entry at (length rows) ∷ [] = c.in-Ok.ensures.items ∙ ap (λ xs. xs ++ new_entry at c.args.first ∷ []) c.in_ok-reserve-2.ensures.items ∙ ap (λ n. entries ++ new_entry at n ∷ []) c.requires.first in
    (λ i. postings_in c.lay.new.text.items (entries_are i) (rows_are i))
    ∙ added_postings text c.lay.new.text.items rows entries c.args.row _ at c.requires.entries c.in_ok-key.ensures.ok

pub returns-clause-entries : goal.returns-clause-entries
returns-clause-entries c =
    let text = c.args.text.now.items in
    let entries = c.args.entries.now.items in
    let rows = c.args.rows.now.items in
    let at = c.in_ok-key.key in
    let rows_are : c.push-2.new.self.items ≡ rows ++ c.args.row ∷ [] = c.in-Ok-push.ensures.items ∙ ap (λ xs. xs ++ c.args.row ∷ []) c.in_ok-reserve.ensures.items in
    let entries_are : c.push.new.self.items ≡ entries ++ new_entry at (length rows) ∷ [] = c.in-Ok.ensures.items ∙ ap (λ xs. xs ++ new_entry at c.args.first ∷ []) c.in_ok-reserve-2.ensures.items ∙ ap (λ n. entries ++ new_entry at n ∷ []) c.requires.first in
    subst (λ rs. AreEntries c.lay.new.text.items c.push.new.self.items rs) (sym rows_are)
    (subst (λ xs. AreEntries c.lay.new.text.items xs (rows ++ c.args.row ∷ [])) (sym entries_are)
    (added_are text c.lay.new.text.items rows entries c.args.row _ at c.requires.entries c.in_ok-key.ensures.ok))
