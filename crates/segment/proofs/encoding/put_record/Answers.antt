use Rattle.std.proofs.Common.{◌≡◌, ◌++◌, List, ℕ, ap, sym, ◌∙◌, append_assoc, arith}
use Rattle.std.specs.Int.{w32}
use Rattle.segment.specs.Records.{Number, field_bytes, spelled, fields_of, head_of, record_in}
use Rattle.segment.proofs.RecordLaws.{record_length}
use Rattle.segment.proofs.encoding.put_record.Goals as goal

pub head-requires : goal.head-requires
head-requires c =
    let put = c.in_ok-put_fields.ensures in
    let fields = spelled (fields_of c.args.stamped.now) in
    let made : c.as_slice.result.now ≡ fields = c.as_slice.ensures.value ∙ put.bytes ∙ ap (λ (l : List ℕ). l ++ fields) c.clear.ensures.items in
    let small = record_length c.args.stamped.now put.stamped in
    rw made small

pub returns-clause-bytes : goal.returns-clause-bytes
unfolding record_in
returns-clause-bytes c =
    let put = c.in_ok-put_fields.ensures in
    let fields = spelled (fields_of c.args.stamped.now) in
    let out = c.args.out.now.items in
    let first : c.as_slice.result.now ≡ fields = c.as_slice.ensures.value ∙ put.bytes ∙ ap (λ (l : List ℕ). l ++ fields) c.clear.ensures.items in
    let second : c.as_slice-2.result.now ≡ fields = c.as_slice-2.ensures.value ∙ put.bytes ∙ ap (λ (l : List ℕ). l ++ fields) c.clear.ensures.items in
    let head_is = c.head.ensures ∙ ap (head_of c.args.form) first in
    c.in_ok-extend_from_slice.ensures.items
    ∙ ap (λ (l : List ℕ). c.put_u32.new.out.items ++ l) second
    ∙ ap (λ (l : List ℕ). l ++ fields) (c.in_ok-put_u32.ensures ∙ ap (λ (n : ℕ). out ++ field_bytes (Number w32 n)) head_is)
    ∙ append_assoc out (field_bytes (Number w32 (head_of c.args.form fields))) fields
