-- What holds if some rows may be stored holds if more may be.
use Rattle.std.specs.Prelude.{ℕ, Result, Ok, Err, IfOk, IfErr}
use Rattle.std.proofs.Common.{List, inl, inr}
use Rattle.rf2_values.specs.Row.{RowValue}
use Rattle.rf2_values.specs.Key.{key_of}
use Rattle.history_model.specs.InOrder.{Has}
use Rattle.import_check.specs.declared.release.Release.{Release}
use Rattle.import_check.specs.declared.release.PlacedLine.{PlacedLine}
use Rattle.import_check.specs.declared.contradicting.OtherRow.{OtherRow}
use Rattle.import_check.specs.declared.contradicting.OtherRow.TheVariants as others
use Rattle.import_check.specs.declared.contradicting.ContradictingLine.{ContradictingLine}
use Rattle.import_check.specs.declared.contradicting.Contradictions.{Contradictions}
use Rattle.import_check.specs.declared.found.NewRows.{NewRows}
use Rattle.import_check.specs.declared.fault.ImportFault.{ImportFault}
use Rattle.import_check.specs.declared.fault.ImportFault.TheVariants as importfault
use Rattle.import_check.specs.Known.{IsUnknown, MayBeKnown}
use Rattle.import_check.specs.Release.{MayCount, MayContradict}
use Rattle.import_check.specs.Contradictions.{MayAgree, ArePossibleContradictions}
use Rattle.import_check.specs.NewRows.{AreNewByKey, BringsByKey, IsRefusalByKey}

-- a row of a release whose key is unknown is new
pub unknown_is_new : {known : List RowValue} {may_be : RowValue → Type 0} {rows : List RowValue} {fresh : NewRows} → AreNewByKey known may_be rows fresh → (row : RowValue) → Has rows row → IsUnknown known (key_of row) → Has fresh.rows.items row
unknown_is_new new row there unknown = elim (new.each row there) [
  | inl fresh ↦ fresh
  | inr may ↦ absurd (unknown may.0.0 may.0.1 may.0.2)
]

module _ (known : List RowValue) (few more : RowValue → Type 0) (each : (row : RowValue) → few row → more row) where
  more_known : (row : RowValue) → MayBeKnown known few row → MayBeKnown known more row
  more_known row may = (may.0, each row may.1)

  pub more_brought : (release : Release) (fresh : NewRows) → BringsByKey known few release fresh → BringsByKey known more release fresh
  more_brought release fresh brings = record {
    rows = brings.rows;
    rows_are = brings.rows_are;
    new_by_key = record {
      ascending = brings.new_by_key.ascending;
      from_release = brings.new_by_key.from_release;
      unknown = brings.new_by_key.unknown;
      each = λ row there. elim (brings.new_by_key.each row there) [ inl fresh ↦ inl fresh | inr may ↦ inr (more_known row may) ];
      counted = brings.new_by_key.counted;
    };
  }

  more_counts : (before : List PlacedLine) (o : OtherRow) → MayCount known few before o → MayCount known more before o
  more_counts before (others.Known row) may = more_known row may
  more_counts before (others.Line first) there = there

  more_contradicts : (lines : List PlacedLine) (c : ContradictingLine) → MayContradict known few lines c → MayContradict known more lines c
  more_contradicts lines c is = record {
    before = is.before;
    after = is.after;
    lines_are = is.lines_are;
    counts = more_counts is.before c.other is.counts;
    same_key = is.same_key;
    differs = is.differs;
  }

  more_agrees : (lines : List PlacedLine) (row : RowValue) → MayAgree known few lines row → MayAgree known more lines row
  more_agrees lines row (inl may) = inl (more_known row may)
  more_agrees lines row (inr first) = inr first

  pub more_listed : (release : Release) (limit : ℕ) (r : Result Contradictions ImportFault) → IfOk r (ArePossibleContradictions known few release limit) → IfOk r (ArePossibleContradictions known more release limit)
  more_listed release limit (Ok found) are = record {
    lists = are.lists;
    spelled = are.spelled;
    all = are.all;
    ascending = are.ascending;
    each = λ c there. more_contradicts _ c (are.each c there);
    rest = λ line there. elim (are.rest line there) [ inl listed ↦ inl listed | inr agrees ↦ inr (more_agrees _ line.row agrees) ];
    listed = are.listed;
    further = are.further;
  }
  more_listed release limit (Err e) are = tt

  pub more_refused : (release : Release) (e : ImportFault) → IsRefusalByKey known few release e → IsRefusalByKey known more release e
  more_refused release importfault.OutOfMemory why = tt
  more_refused release (importfault.Known fault) why = why
  more_refused release (importfault.Row file line fault) why = tt
  more_refused release (importfault.Contradiction file line key) why = record {
    lists = why.lists;
    spelled = why.spelled;
    possible = record {
      contradiction = why.possible.contradiction;
      may_contradict = more_contradicts _ why.possible.contradiction why.possible.may_contradict;
      file_is = why.possible.file_is;
      line_is = why.possible.line_is;
      key_is = why.possible.key_is;
    };
  }

  pub more_refusals : {T : Type 0} (release : Release) (r : Result T ImportFault) → IfErr r (IsRefusalByKey known few release) → IfErr r (IsRefusalByKey known more release)
  more_refusals release (Ok x) why = tt
  more_refusals release (Err e) why = more_refused release e why
