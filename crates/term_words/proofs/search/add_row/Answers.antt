use Rattle.std.proofs.Common.{◌∷◌, ◌++◌, [], ap, ◌∙◌}
use Rattle.term_words.specs.Private.{sized}
use Rattle.term_words.proofs.Adding.{row_old, row_one}
use Rattle.term_words.proofs.search.add_row.Goals as goal

pub returns-in_ok-push-in-Some : goal.returns-in_ok-push-in-Some
returns-in_ok-push-in-Some c = λ lists listed_so.
    let a = c.args in
    row_one lists a.as_of.now a.group.now.segment a.group.now.len a.row c.current_at.result (c.current_at.ensures lists listed_so) a.kept.now.items c.in-Some.at c.push.new.self.items c.in-Some.is
    (c.in_ok-push-in-Some.ensures.items ∙ ap (λ n. a.kept.now.items ++ sized a.group.now.segment n c.in-Some.at ∷ []) c.from.ensures)

pub returns-in-None : goal.returns-in-None
returns-in-None c = λ lists listed_so.
    let a = c.args in
    row_old lists a.as_of.now a.group.now.segment a.group.now.len a.row c.current_at.result (c.current_at.ensures lists listed_so) a.kept.now.items c.in-None.is
