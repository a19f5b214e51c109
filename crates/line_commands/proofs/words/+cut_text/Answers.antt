use Rattle.std.proofs.Common.{ℕ, ◌≤◌, ◌≡◌, arith}
use Rattle.line_commands.proofs.Cuts.{no_cut, uncut, uncut_later, cut_found}
use Rattle.line_commands.proofs.words.+cut_text.Goals as goal

two : (count : ℕ) → 1 ≤ count → (count ≡ 1 → ⊥) → 2 ≤ count
two count some other = omega arith

pub returns-in_err-first : goal.returns-in_err-first
returns-in_err-first t c = no_cut c.args.count _ c.from_residual.result c.from_residual.ensures (uncut c.args.count (two c.args.count c.requires.some c.if-count-eq1.false) c.args.text.now c.in_err-first.ensures)

pub returns-in_err-later : goal.returns-in_err-later
returns-in_err-later t c = no_cut c.args.count _ c.from_residual-in_err-later.result c.from_residual-in_err-later.ensures (uncut_later c.args.count (two c.args.count c.requires.some c.if-count-eq1.false) c.args.text.now c.in_ok-first.first.now c.in_ok-first.rest.now c.in_ok-first.ensures.0 c.in_ok-first.ensures.1 c.in_err-later.ensures)

pub returns : goal.returns
returns t c = cut_found c.args.count c.args.text.now c.in_ok-first.first.now c.in_ok-first.rest.now c.in_ok-later.later.first.now c.in_ok-later.later.second.now c.in_ok-later.later.third.now c.in_ok-later.later.fourth.now c.in_ok-later.later.fifth.now (two c.args.count c.requires.some c.if-count-eq1.false) c.requires.few c.in_ok-first.ensures.0 c.in_ok-first.ensures.1 c.in_ok-later.ensures
