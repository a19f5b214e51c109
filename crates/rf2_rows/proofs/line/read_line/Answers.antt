use Rattle.std.proofs.Common.{◌≡◌, List, ℕ, length, sym, ap, subst, ◌∙◌, arith}
use Rattle.std.specs.Borrow.{Bor}
use Rattle.std.proofs.lemmas.List.Splits.{join_with_byte-slice_split}
use Rattle.rf2_values.specs.Row.{line_of}
use Rattle.rf2_rows.specs.Line.{columns_of}
use Rattle.rf2_rows.specs.Private.{texts, HaveNoTab}
use Rattle.rf2_rows.proofs.Faults.{line_reading}
use Rattle.rf2_rows.proofs.Splits.{parts_free}
use Rattle.rf2_rows.proofs.line.read_line.Goals as goal

pub read_columns-requires-clause-no_tab : goal.read_columns-requires-clause-no_tab
read_columns-requires-clause-no_tab c =
    let cut : texts c.deref.result.now ≡ columns_of c.args.text.now = ap texts c.deref.ensures.value ∙ c.in_ok-put_columns.ensures in
    subst (λ (ts : List (List ℕ)). HaveNoTab ts) (sym cut) (parts_free 9 c.args.text.now)

pub read_columns-requires-clause-short : goal.read_columns-requires-clause-short
read_columns-requires-clause-short c =
    let whole : line_of (texts c.deref.result.now) ≡ c.args.text.now = ap (λ (columns : List (Bor (List ℕ))). line_of (texts columns)) c.deref.ensures.value ∙ ap line_of c.in_ok-put_columns.ensures ∙ join_with_byte-slice_split 9 c.args.text.now in
    omega (arith, ap length whole)

pub returns : goal.returns
returns c =
    let cut : texts c.deref.result.now ≡ columns_of c.args.text.now = ap texts c.deref.ensures.value ∙ c.in_ok-put_columns.ensures in
    line_reading c.args.shape c.args.text.now (texts c.deref.result.now) c.read_columns.result (omega arith) (c.is_utf8.ensures.0 c.if-not-is_utf8.false) (sym (ap line_of cut ∙ join_with_byte-slice_split 9 c.args.text.now)) cut c.read_columns.ensures
