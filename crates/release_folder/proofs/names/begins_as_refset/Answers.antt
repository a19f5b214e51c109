use Rattle.std.proofs.Common.{◌≡◌, ◌∙◌, sym, subst, codes, rules, false, get_or, arith}
use Rattle.std.proofs.lemmas.Bool.{true≢false, false≢true}
use Rattle.std.proofs.lemmas.List.{take_rest}
use Rattle.memchr.specs.Find.{OccursAt}
use Rattle.release_folder.specs.Names.{IsColumnLetter}
use Rattle.release_folder.proofs.Letters.{at_place, letters_alone}
use Rattle.release_folder.proofs.names.begins_as_refset.Goals as goal

pub returns-then-not-is_column_letter : goal.returns-then-not-is_column_letter
returns-then-not-is_column_letter c =
    let name = c.args.name.now in
    let no : c.is_column_letter.result ≡ false = search (rules, c.if-not-is_column_letter.true) in
    let other : IsColumnLetter (get_or name c.loop-i.i 0) → ⊥ = λ letter. true≢false (sym (c.is_column_letter.ensures.1 letter) ∙ no) in (
      (λ yes. record { columns = c.loop-i.i; letters = c.loop-i.invariant; refset = subst (λ l. OccursAt l (codes "Refset_") 0) (take_rest name c.loop-i.i) (c.starts_with_str.ensures.0 yes) }),
      (λ begins. c.starts_with_str.ensures.1 (subst (λ l. OccursAt l (codes "Refset_") 0) (sym (take_rest name c.loop-i.i)) (at_place name c.loop-i.i c.loop-i-test.true c.loop-i.invariant other begins))),
    )

pub returns : goal.returns
returns c = (
  (λ lie. absurd (false≢true lie)),
  (λ begins. absurd (letters_alone c.args.name.now c.loop-i.i (omega (arith, c.loop-i-test.false)) c.loop-i.invariant begins)),
)
