use Rattle.std.proofs.Common.{sym}
use Rattle.rf2_values.specs.Row.{kind_of}
use Rattle.segment.proofs.Checksums.{no_common, begins, ends_behind}
use Rattle.segment.proofs.checked.behind_fields.Goals as goal

pub returns-in_default : goal.returns-in_default
returns-in_default c = λ s x is e. absurd (no_common c.args.bytes.now c.in_default.ensures s x is e)

pub returns-in_default-kind_with_code : goal.returns-in_default-kind_with_code
returns-in_default-kind_with_code c = λ s x is e.
    let b = begins c.args.bytes.now c.in-Some.common c.in-Some.rest.now c.in-Some.ensures s x is e in
    absurd (c.in_default-kind_with_code.ensures.unknown (kind_of s.row) b.kind)

pub returns : goal.returns
returns c = λ s x is e.
    let b = begins c.args.bytes.now c.in-Some.common c.in-Some.rest.now c.in-Some.ensures s x is e in
    ends_behind c.in-Some.common c.in-Some.rest.now x c.in-Some-kind_with_code.kind s _ is b c.in-Some-kind_with_code.ensures.known c.behind_body.ensures
