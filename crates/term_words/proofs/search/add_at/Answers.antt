use Rattle.std.proofs.Common.{sym}
use Rattle.std.proofs.lemmas.Result.{on_ok_weaker}
use Rattle.term_words.proofs.Adding.{row_picked, none_picked}
use Rattle.term_words.proofs.search.add_at.Goals as goal

pub returns-in-Some : goal.returns-in-Some
returns-in-Some c =
    let a = c.args in
    on_ok_weaker c.add_row.result (λ adds lists listed_so. row_picked lists a.as_of.now a.group.now.segment a.group.now.len a.group.now.rows.now a.number c.in-Some.row a.kept.now.items c.add_row.new.kept.items (sym c.in-Some.ensures) (adds lists listed_so)) c.add_row.ensures

pub returns-in-None : goal.returns-in-None
returns-in-None c = λ lists listed_so.
    let a = c.args in
    none_picked lists a.as_of.now a.group.now.segment a.group.now.len a.group.now.rows.now a.number a.kept.now.items (sym c.in-None.ensures)
