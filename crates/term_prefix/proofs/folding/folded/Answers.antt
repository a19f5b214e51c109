use Rattle.std.proofs.Common.{◌++◌, ◌-◌, length, take, drop, ap, arith, ◌∙◌}
use Rattle.std.proofs.lemmas.List.{length-drop, take_all}
use Rattle.history_model.specs.Queries.{folded}
use Rattle.term_prefix.proofs.Ascii.{between_ascii, parts_folded}
use Rattle.term_prefix.proofs.folding.folded.Goals as goal

pub looked_up-requires : goal.looked_up-requires
looked_up-requires c =
    let end = c.ascii_at_end-end in
    between_ascii c.args.term.now c.ascii_at_begin-begin.result end.result c.requires end.ensures.after end.ensures.within c.ascii_at_begin-begin.ensures.ascii end.ensures.ascii

pub returns : goal.returns
returns c =
    let begin = c.ascii_at_begin-begin.result in
    let end = c.ascii_at_end-end in
    let term = c.args.term.now in
    let first = c.in_ok-extend_by_lower_case.ensures.ok ∙ ap (λ xs. xs ++ folded (take begin term)) c.in_ok-text.ensures.items in
    let middle = c.as_bytes.ensures.value ∙ c.in_ok-between.ensures in
    let both = c.in_ok-extend_from_slice.ensures.items ∙ (λ i. first i ++ middle i) in
    c.in_ok-extend_by_lower_case-2.ensures.ok
    ∙ ap (λ xs. c.extend_from_slice.new.self.items ++ folded xs) (take_all (length term - end.result) (drop end.result term) (omega (arith, length-drop end.result term)))
    ∙ ap (λ xs. xs ++ folded (drop end.result term)) both
    ∙ parts_folded term begin end.result c.requires end.ensures.after end.ensures.within c.ascii_at_begin-begin.ensures.ascii end.ensures.ascii
