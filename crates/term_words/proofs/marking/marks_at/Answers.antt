use Rattle.std.proofs.Common.{map, sym, ap, ◌∙◌, arith}
use Rattle.std.specs.Prelude.{Some}
use Rattle.std.specs.Option.{option_map}
use Rattle.std.proofs.lemmas.List.{length-map}
use Rattle.std.proofs.lemmas.Option.{slice_get-map, slice_get_past, slice_get-get_or}
use Rattle.term_words.proofs.marking.marks_at.Goals as goal

pub returns-then-marks-number : goal.returns-then-marks-number
returns-then-marks-number c =
    let past = c.if-marks-number.true in
    let many = length-map c.args.marks.now (λ m. m.items) in
    sym (slice_get_past (map (λ m. m.items) c.args.marks.now) c.args.number (omega (arith, past, many)))

pub returns : goal.returns
returns c =
    let own = c.index-marks-number.result in
    let lt = c.if-marks-number.false in
    ap Some (c.as_slice.ensures.value ∙ ap (λ m. m.items) c.index-marks-number.is)
    ∙ sym (slice_get-map (λ m. m.items) c.args.marks.now c.args.number ∙ ap (option_map (λ m. m.items)) (slice_get-get_or c.args.marks.now c.args.number own (omega (arith, lt))))
