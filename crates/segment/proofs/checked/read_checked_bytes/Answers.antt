use Rattle.std.proofs.Common.{◌≡◌, ◌-◌, ◌≤◌, ◌++◌, List, ℕ, length, take, refl, sym, ap, ◌∙◌, arith}
use Rattle.std.proofs.lemmas.List.{take-append-drop, length-append}
use Rattle.std.proofs.lemmas.Option.{same_Some}
use Rattle.checksum.specs.Crc32c.{crc32c}
use Rattle.segment.specs.Records.{spelled, fields_of}
use Rattle.segment.proofs.Numbers.{IsBytes}
use Rattle.segment.proofs.Checksums.{no_head, has_head, cut_before, split_there}
use Rattle.segment.proofs.checked.read_checked_bytes.Goals as goal

pub returns-in_default : goal.returns-in_default
returns-in_default c = λ s x is e. no_head c.args.bytes.now (λ i. omega (arith, c.type_inv.bytes i)) c.in_default.ensures s x e

pub returns-in_default-behind_fields : goal.returns-in_default-behind_fields
returns-in_default-behind_fields c = λ s x is e.
    let h = has_head c.args.bytes.now c.in-Some.head c.in-Some.behind.now (λ i. omega (arith, c.type_inv.bytes i)) c.in-Some.ensures s x e in
    let none = c.in_default-behind_fields.ensures s x is h.behind_is in
    absurd cc

pub returns-in_default-checked_sub : goal.returns-in_default-checked_sub
returns-in_default-checked_sub c = λ s x is e.
    let h = has_head c.args.bytes.now c.in-Some.head c.in-Some.behind.now (λ i. omega (arith, c.type_inv.bytes i)) c.in-Some.ensures s x e in
    let same = same_Some c.in-Some-behind_fields.rest.now x (c.in-Some-behind_fields.ensures s x is h.behind_is) in
    let long = ap length h.behind_is in
    let rest_long = ap length same in
    c.in_default-checked_sub.ensures (omega (arith, long, rest_long, length-append (spelled (fields_of s)) x))

pub returns-then-crc32c-head : goal.returns-then-crc32c-head
returns-then-crc32c-head c = λ s x is e.
    let h = has_head c.args.bytes.now c.in-Some.head c.in-Some.behind.now (λ i. omega (arith, c.type_inv.bytes i)) c.in-Some.ensures s x e in
    let same = same_Some c.in-Some-behind_fields.rest.now x (c.in-Some-behind_fields.ensures s x is h.behind_is) in
    let cut = cut_before (spelled (fields_of s)) x c.in-Some.behind.now c.in-Some-behind_fields.rest.now c.in-Some-checked_sub.len h.behind_is same c.in-Some-checked_sub.ensures.1 in
    let front : c.split_at.result.0.now ≡ spelled (fields_of s) = c.split_at.ensures.front ∙ cut in
    c.if-crc32c-head.true (c.crc32c.ensures ∙ ap crc32c front ∙ sym h.head_is)

pub returns : goal.returns
returns c =
    let fits : IsBytes c.args.bytes.now = λ i. omega (arith, c.type_inv.bytes i) in
    let whole : c.in-Some.behind.now ≡ c.split_at.result.0.now ++ c.split_at.result.1.now =
    sym (take-append-drop c.in-Some-checked_sub.len c.in-Some.behind.now) ∙ (λ i. sym c.split_at.ensures.front i ++ sym c.split_at.ensures.back i) in
    split_there c.args.bytes.now c.in-Some.head c.in-Some.behind.now c.split_at.result.0.now c.split_at.result.1.now fits c.in-Some.ensures whole (sym c.crc32c.ensures ∙ c.if-crc32c-head.false)
    (λ s x is e.
    let h = has_head c.args.bytes.now c.in-Some.head c.in-Some.behind.now fits c.in-Some.ensures s x e in
    let same = same_Some c.in-Some-behind_fields.rest.now x (c.in-Some-behind_fields.ensures s x is h.behind_is) in
    c.split_at.ensures.front ∙ cut_before (spelled (fields_of s)) x c.in-Some.behind.now c.in-Some-behind_fields.rest.now c.in-Some-checked_sub.len h.behind_is same c.in-Some-checked_sub.ensures.1)
