use Rattle.std.proofs.Common.{rules, ◌≡◌, ◌*◌, length, ap, ◌∙◌, arith}
use Rattle.hex.specs.Hex.{lower_digits}
use Rattle.hex.proofs.HexLemmas.{length-encode_with}
use Rattle.line_server.proofs.wording.reply_digest.Goals as goal

pub put_word-requires : goal.put_word-requires
put_word-requires c =
    let digits : length c.as_str.result.now ≡ 2 * length c.args.digest = ap length (c.as_str.ensures.value ∙ c.in_ok-digits.ensures) ∙ length-encode_with lower_digits c.args.digest in
    let bytes : length c.args.digest ≡ 32 = search rules in
    omega (arith, digits, bytes, c.begin_line-last.ensures.len)

pub of_lines-requires : goal.of_lines-requires
of_lines-requires c =
    let digits : length c.as_str.result.now ≡ 2 * length c.args.digest = ap length (c.as_str.ensures.value ∙ c.in_ok-digits.ensures) ∙ length-encode_with lower_digits c.args.digest in
    let bytes : length c.args.digest ≡ 32 = search rules in
    omega (arith, digits, bytes, c.begin_line-last.ensures.len, c.put_word.ensures.len)
