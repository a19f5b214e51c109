-- The lines that ask for a digest.
use Rattle.std.proofs.Common.{◌≡◌, ℕ, ◌+◌, ◌<◌, ◌^◌, ◌≤◌, ◌++◌, ◌∷◌, [], Some, None, length, length-append, codes, refl, arith}
use Rattle.std.proofs.lemmas.Fmt.{length-decimal-le}
use Rattle.std.specs.Prelude.{decimal}
use Rattle.std.specs.Fmt.{digits}
use Rattle.line_commands.specs.Commands.{Ask, At}
use Rattle.question_model.specs.Questions.{Digest}
use Rattle.line_commands.specs.Requests.{Asks}
use Rattle.command_line.specs.Tasks.{digest_line}

pub digest_asks : Asks (digest_line None) 0 (Ask Digest)
unfolding digits
digest_asks = record { short = omega arith; is_session = omega arith; arguments = []; spelled = tt; line_is = refl }

pub digest_at_asks : (n : ℕ) → n < 2 ^ 32 → Asks (digest_line (Some n)) 0 (At n Digest)
unfolding digits
digest_at_asks n below =
    let number : length (decimal n) ≤ 10 = length-decimal-le 10 n (omega arith) (omega (arith, below)) (omega (arith, below)) in
    let whole : length (decimal n ++ codes " DIGEST") ≡ length (decimal n) + length (codes " DIGEST") = length-append (decimal n) (codes " DIGEST") in
    record { short = omega (arith, number, whole); is_session = omega arith; arguments = decimal n ∷ codes "DIGEST" ∷ []; spelled = ([], tt, below, refl); line_is = refl }
