use Rattle.std.proofs.Common.{◌≡◌, List, ℕ, ◌++◌, ap, ◌∙◌}
use Rattle.std.proofs.lemmas.List.{append-nil}
use Rattle.rf2_rows.specs.Line.{header}
use Rattle.rf2_rows.proofs.Headers.{behind_prefix, named_alone, named_members, not_named, emptied, some_left}
use Rattle.rf2_rows.proofs.file.further_names.Goals as goal

pub returns-then-is_empty : goal.returns-then-is_empty
returns-then-is_empty c =
    let found = c.in_ok-others.ensures.cases in
    let cut = behind_prefix c.column_names.result.now c.args.names.now c.in_ok-others.others.now found.0 found.1 ∙ ap (λ (t : List ℕ). t ++ c.in_ok-others.others.now) c.column_names.ensures in
    let none = emptied c.in_ok-others.others.now c.is_empty.result c.is_empty.ensures c.if-is_empty.true in
    named_alone c.args.kind c.args.names.now (cut ∙ ap (λ (t : List ℕ). header c.args.kind ++ t) none ∙ append-nil (header c.args.kind)) c.requires

pub returns-in-Member : goal.returns-in-Member
returns-in-Member c =
    let found = c.in_ok-others.ensures.cases in
    let cut = behind_prefix c.column_names.result.now c.args.names.now c.in_ok-others.others.now found.0 found.1 ∙ ap (λ (t : List ℕ). t ++ c.in_ok-others.others.now) c.column_names.ensures in
    named_members c.args.kind c.args.names.now c.in_ok-others.others.now c.count.result c.in-Member.is cut c.requires c.count.ensures

pub returns-in_default : goal.returns-in_default
returns-in_default c =
    let found = c.in_ok-others.ensures.cases in
    let cut = behind_prefix c.column_names.result.now c.args.names.now c.in_ok-others.others.now found.0 found.1 ∙ ap (λ (t : List ℕ). t ++ c.in_ok-others.others.now) c.column_names.ensures in
    not_named c.args.kind c.args.names.now c.in_ok-others.others.now c.in_default.not-Member cut (some_left c.in_ok-others.others.now c.is_empty.result c.is_empty.ensures c.if-is_empty.false)
