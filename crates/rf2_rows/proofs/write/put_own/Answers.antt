use Rattle.std.proofs.Common.{ℕ, ◌∷◌, ◌++◌, ap, ◌∙◌}
use Rattle.std.specs.Prelude.{decimal}
use Rattle.rf2_rows.proofs.Written.{member_put}
use Rattle.rf2_rows.proofs.write.put_own.Goals as goal

pub returns-in_ok-put_number-in-Member-2-clause-ok : goal.returns-in_ok-put_number-in-Member-2-clause-ok
returns-in_ok-put_number-in-Member-2-clause-ok c =
    let start = c.args.line.now.items in
    let first = c.put_number-in-Member.new.line.items in
    let one = c.in_ok-put_number-in-Member.ensures.ok ∙ ap (λ (n : ℕ). start ++ 9 ∷ decimal n) c.value-in-Member.ensures.value in
    let two = c.in_ok-put_number-in-Member-2.ensures.ok ∙ ap (λ (n : ℕ). first ++ 9 ∷ decimal n) c.value-in-Member-2.ensures.value in
    member_put c.extend_from_slice.result start first c.put_number-in-Member-2.new.line.items c.extend_from_slice.new.self.items c.as_bytes.result.now c.args.body.now c.in-Member.member c.in-Member.is
    c.as_bytes.ensures.is_further one two c.as_bytes.ensures.bytes c.extend_from_slice.ensures.items
