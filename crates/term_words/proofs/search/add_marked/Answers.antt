use Rattle.std.proofs.Common.{sym}
use Rattle.std.proofs.lemmas.Result.{on_ok_weaker}
use Rattle.term_words.proofs.Adding.{marked_some, marked_none}
use Rattle.term_words.proofs.search.add_marked.Goals as goal

pub returns-in-Some : goal.returns-in-Some
returns-in-Some c = on_ok_weaker c.add_rows.result (λ adds lists listed_so. marked_some lists c.args.as_of.now c.args.group.now _ c.in-Some.own.now c.args.kept.now.items c.add_rows.new.kept.items (sym c.in-Some.ensures) (adds lists listed_so)) c.add_rows.ensures

pub returns-in-None : goal.returns-in-None
returns-in-None c = λ lists listed_so. marked_none lists c.args.as_of.now c.args.group.now _ c.args.kept.now.items (sym c.in-None.ensures)
