use Rattle.std.proofs.Common.{◌≡◌, ◌++◌, length, take, drop, sym, ap, ◌∙◌, arith}
use Rattle.std.specs.Int.{w32, from_be_bytes}
use Rattle.std.proofs.lemmas.List.{take-append-drop}
use Rattle.checksum.specs.Crc32c.{continued, crc32c}
use Rattle.checksum.proofs.ChecksumLaws.{continued_on}
use Rattle.segment.proofs.Numbers.{IsBytes}
use Rattle.store_image.proofs.Summed.{head_is_sum}
use Rattle.store_image.proofs.window.append_checked.Goals as goal

pub returns : goal.returns
returns c =
    let bytes = c.args.bytes.now in
    let fields = c.in-Some.fields.now in
    let fits : IsBytes bytes = λ i. omega (arith, c.type_inv.bytes i) in
    let front : c.in-Some.head.now ≡ take 4 bytes = c.in-Some.ensures.cases.0 in
    let behind : fields ≡ drop 4 bytes = c.in-Some.ensures.cases.1 in
    let head : c.from_be_bytes.result ≡ from_be_bytes w32 c.in-Some.head.now = c.from_be_bytes.ensures in
    let sum : crc32c fields ≡ c.from_be_bytes.result =
    ap crc32c behind ∙ head_is_sum bytes c.requires.0 fits c.requires.1 ∙ sym (head ∙ ap (from_be_bytes w32) front) in
    c.joined.ensures fields (λ _. length fields) sum
    ∙ ap (λ n. continued n fields) c.append-2.ensures
    ∙ continued_on c.args.crc c.in-Some.head.now fields
    ∙ ap (continued c.args.crc) ((λ i. front i ++ behind i) ∙ take-append-drop 4 bytes)
