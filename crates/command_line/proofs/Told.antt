-- What is told of an outcome.
use Rattle.std.proofs.Common.{◌≡◌, Result, Ok, Err, IsOk, refl, sym, subst}
use Rattle.line_server.specs.declared.refusal.LineRefusal.{LineRefusal}
use Rattle.line_server.specs.ReplyValue.{Answer, ReplyValue, reply_value}
use Rattle.line_server.specs.Turns.{IsToldBy}

-- the outcome that a reply tells is an answer
pub answered_as : (P : Result Answer LineRefusal → Type 0) (reply : ReplyValue) (outcome : Result Answer LineRefusal) → ((answer : Answer) → reply ≡ reply_value (Ok answer) → P (Ok answer)) → IsToldBy (Ok reply) outcome → P outcome
answered_as P reply (Ok answer) so told = so answer told
answered_as P reply (Err refusal) so told = absurd told

-- the outcome that a refusal tells is the refusal
pub refused_as : (P : Result Answer LineRefusal → Type 0) (refusal : LineRefusal) (outcome : Result Answer LineRefusal) → P (Err refusal) → IsToldBy (Err refusal) outcome → P outcome
refused_as P refusal (Ok answer) so told = absurd told
refused_as P refusal (Err reason) so told = subst (λ (r : LineRefusal). P (Err r)) (sym told) so

pub refusal_told : (refusal : LineRefusal) (outcome : Result Answer LineRefusal) → outcome ≡ Err refusal → IsToldBy (Err refusal) outcome
refusal_told refusal outcome is = subst (λ (o : Result Answer LineRefusal). IsToldBy (Err refusal) o) (sym is) refl

pub answer_is_ok : (reply : ReplyValue) (outcome : Result Answer LineRefusal) → IsToldBy (Ok reply) outcome → IsOk outcome
answer_is_ok reply (Ok answer) told = refl
answer_is_ok reply (Err refusal) told = absurd told

pub outcome_is : (refusal : LineRefusal) (outcome : Result Answer LineRefusal) → IsToldBy (Err refusal) outcome → outcome ≡ Err refusal
outcome_is refusal outcome told = refused_as (λ o. o ≡ Err refusal) refusal outcome refl told
