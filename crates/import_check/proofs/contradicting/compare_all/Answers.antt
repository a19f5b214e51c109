use Rattle.std.proofs.Common.{◌≡◌, ℕ, ◌+◌, ◌≤◌, List, ◌∷◌, [], ◌++◌, length, inl, refl, sym, ap, subst, ◌∙◌, append_assoc, arith}
use Rattle.std.specs.Prelude.{Option, Some}
use Rattle.std.specs.List.{sum_by}
use Rattle.rf2_values.specs.declared.key.Key.{Key}
use Rattle.rf2_values.specs.Row.{RowValue}
use Rattle.import_check.specs.declared.release.PlacedLine.{PlacedLine}
use Rattle.import_check.specs.Known.{already_known, MayBeKnown}
use Rattle.import_check.specs.Release.{rows_of}
use Rattle.history_model.specs.InOrder.{Has}
use Rattle.history_model.proofs.InOrder.{Has-append_left, Has-append_right}
use Rattle.import_check.specs.Contradictions.{rank_cmp}
use Rattle.import_check.specs.Private.Sweep.{IsRising, IsAhead, AsksOnce}
use Rattle.import_check.specs.Private.Contradictions.{IsCountingFor, last_key}
use Rattle.import_check.proofs.Asking.{ahead_more, asked_more, more_lines}
use Rattle.import_check.proofs.Differing.{sifted_on, more_counting, rising_from_ascending}
use Rattle.import_check.proofs.Knowing.{known_before, has_asked, asked_so, asked_in_vain}
use Rattle.rf2_values.specs.Key.{key_of}
use Rattle.import_check.specs.Known.{IsUnknown}
use Rattle.history_model.proofs.Filtered.{Has-map_from}
use Rattle.std.proofs.lemmas.Result.{err_from_is_err_and}
use Rattle.import_check.proofs.Blaming.{none_asked}
use Rattle.import_check.proofs.contradicting.compare_all.Goals as goal

-- what a line takes when nothing is done after it
taken : (cost : RowValue → ℕ) (rows : List RowValue) (lines done : List PlacedLine) (line : PlacedLine) (rest : List PlacedLine) (last : Option Key) (start old new : ℕ) → lines ≡ done ++ line ∷ rest
    → IsAhead done last (line ∷ rest) → AsksOnce cost rows last line old new → old ≤ start + sum_by cost (already_known rows (rows_of done)) → new ≤ start + sum_by cost (already_known rows (rows_of lines))
taken cost rows lines done line rest last start old new lines_are ahead asks so =
    let least = asked_more done line rest cost rows last start old new ahead asks so in
    let all = lines_are ∙ sym (append_assoc done (line ∷ []) rest) in
    let more = more_lines cost rows (done ++ line ∷ []) lines (λ l h. subst (λ ls. Has ls l) (sym all) (Has-append_left (done ++ line ∷ []) rest l h)) in
    omega (arith, least, more)

pub loop-line-preserved : goal.loop-line-preserved
loop-line-preserved g c =
    let steps = c.in-Some.ensures.steps in
    let before = c.loop-line.invariant in
    let next = c.in_ok-counting.ensures in
    let noted = c.in_ok-note.ensures in
    record {
      sifted = λ honest strict.
          let rows = (g.K.Known.view c.args.known.now).rows in
          let is = subst (λ known. IsCountingFor (Has known) known c.in-Some.line c.loop-line.last c.in_ok-counting.counting) before.known.rows (next.next (before.known.honesty honest)) in
          sifted_on (Has rows) rows c.args.limit c.args.lines.items c.loop-line.line-iterator c.in-Some.line c.next.new.self c.loop-line.last c.in_ok-counting.counting c.loop-line.found c.note.new.found steps strict is noted.noted (before.sifted honest strict);
      possible = λ sound strict.
          let was = g.K.Known.view c.args.known.now in
          let seen = g.K.Known.view c.loop-line.known in
          let found = more_counting (MayBeKnown seen.rows seen.may_be) (MayBeKnown was.rows was.may_be) seen.rows c.in-Some.line c.loop-line.last c.in_ok-counting.counting (known_before before.known) (next.possible (before.known.soundness sound)) in
          let is = subst (λ known. IsCountingFor (MayBeKnown was.rows was.may_be) known c.in-Some.line c.loop-line.last c.in_ok-counting.counting) before.known.rows found in
          sifted_on (MayBeKnown was.rows was.may_be) was.rows c.args.limit c.args.lines.items c.loop-line.line-iterator c.in-Some.line c.next.new.self c.loop-line.last c.in_ok-counting.counting c.loop-line.found c.note.new.found steps strict is noted.noted (before.possible sound strict);
      asked = λ sound strict.
          let so = before.asked sound strict in
          let rows = (g.K.Known.view c.args.known.now).rows in
          let lines_are = so.1 ∙ ap (λ left. so.0 ++ left) steps in
          let rising = subst (λ ls. IsRising rank_cmp ls) lines_are (rising_from_ascending rank_cmp c.args.lines.items strict) in
          let ahead = subst (λ ls. IsAhead so.0 (last_key c.loop-line.last) ls) steps so.2 in
          let asks = subst (λ known. AsksOnce g.K.Known.cost known (last_key c.loop-line.last) c.in-Some.line (g.K.Known.view c.loop-line.known).work (g.K.Known.view c.next-in-loop-line.new.known).work) before.known.rows (next.asks_once (before.known.soundness sound)) in (
            so.0 ++ c.in-Some.line ∷ [],
            lines_are ∙ sym (append_assoc so.0 (c.in-Some.line ∷ []) c.next.new.self),
            subst (λ key. IsAhead (so.0 ++ c.in-Some.line ∷ []) (Some key) c.next.new.self) (sym next.key) (ahead_more so.0 c.in-Some.line c.next.new.self rising),
            asked_more so.0 c.in-Some.line c.next.new.self g.K.Known.cost rows (last_key c.loop-line.last) (g.K.Known.view c.args.known.now).work (g.K.Known.view c.loop-line.known).work (g.K.Known.view c.next-in-loop-line.new.known).work ahead asks so.3,
          );
      room = omega (arith, ap length steps, noted.further, before.room);
      known = has_asked before.known next.known;
      stays = g.met.K.Known.stays_on c.args.known.now _ _ before.stays next.stays;
    }

pub returns-clause-work : goal.returns-clause-work
returns-clause-work g c = λ sound strict.
    let so = c.loop-line.invariant.asked sound strict in
    let more = more_lines g.K.Known.cost (g.K.Known.view c.args.known.now).rows so.0 c.args.lines.items (λ l h. subst (λ ls. Has ls l) (sym so.1) (Has-append_left so.0 _ l h)) in
    omega (arith, so.3, more)

pub returns-in_err-counting-clause-work : goal.returns-in_err-counting-clause-work
returns-in_err-counting-clause-work g c = λ sound strict.
    let before = c.loop-line.invariant in
    let steps = c.in-Some.ensures.steps in
    let so = before.asked sound strict in
    let ahead = subst (λ ls. IsAhead so.0 (last_key c.loop-line.last) ls) steps so.2 in
    let asks = subst (λ known. AsksOnce g.K.Known.cost known (last_key c.loop-line.last) c.in-Some.line (g.K.Known.view c.loop-line.known).work (g.K.Known.view c.next-in-loop-line.new.known).work) before.known.rows (c.in_err-counting.ensures.asks_once (before.known.soundness sound)) in
    taken g.K.Known.cost (g.K.Known.view c.args.known.now).rows c.args.lines.items so.0 c.in-Some.line c.next.new.self (last_key c.loop-line.last) (g.K.Known.view c.args.known.now).work (g.K.Known.view c.loop-line.known).work (g.K.Known.view c.next-in-loop-line.new.known).work (so.1 ∙ ap (λ left. so.0 ++ left) steps) ahead asks so.3

pub returns-in_err-note-clause-work : goal.returns-in_err-note-clause-work
returns-in_err-note-clause-work g c = λ sound strict.
    let before = c.loop-line.invariant in
    let steps = c.in-Some.ensures.steps in
    let so = before.asked sound strict in
    let ahead = subst (λ ls. IsAhead so.0 (last_key c.loop-line.last) ls) steps so.2 in
    let asks = subst (λ known. AsksOnce g.K.Known.cost known (last_key c.loop-line.last) c.in-Some.line (g.K.Known.view c.loop-line.known).work (g.K.Known.view c.next-in-loop-line.new.known).work) before.known.rows (c.in_ok-counting.ensures.asks_once (before.known.soundness sound)) in
    taken g.K.Known.cost (g.K.Known.view c.args.known.now).rows c.args.lines.items so.0 c.in-Some.line c.next.new.self (last_key c.loop-line.last) (g.K.Known.view c.args.known.now).work (g.K.Known.view c.loop-line.known).work (g.K.Known.view c.next-in-loop-line.new.known).work (so.1 ∙ ap (λ left. so.0 ++ left) steps) ahead asks so.3

pub returns-clause-known : goal.returns-clause-known
returns-clause-known g c = asked_so c.loop-line.invariant.known

pub returns-in_err-counting-clause-known : goal.returns-in_err-counting-clause-known
returns-in_err-counting-clause-known g c = asked_in_vain _ _ c.from_residual.ensures.1 c.loop-line.invariant.known c.in_err-counting.ensures.known

pub returns-in_err-counting-clause-causes : goal.returns-in_err-counting-clause-causes
returns-in_err-counting-clause-causes g c = λ sound strict none.
    let before = c.loop-line.invariant in
    let so = before.asked sound strict in
    let line = c.in-Some.line in
    let lines_are = so.1 ∙ ap (λ left. so.0 ++ left) c.in-Some.ensures.steps in
    let there = subst (λ ls. Has ls line) (sym lines_are) (Has-append_right so.0 (line ∷ c.next.new.self) line (inl refl)) in
    let unknown = none_asked (g.K.Known.view c.args.known.now).rows (rows_of c.args.lines.items) line.row none (Has-map_from (λ (l : PlacedLine). l.row) c.args.lines.items line there) in
    let p = err_from_is_err_and c.from_residual.result c.from_residual.ensures.1 in
    rw (p.1, p.2) (c.in_err-counting.ensures.causes (before.known.soundness sound) (subst (λ rows. IsUnknown rows (key_of line.row)) (sym before.known.rows) unknown))
