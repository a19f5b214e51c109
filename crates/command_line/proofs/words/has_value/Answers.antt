use Rattle.std.proofs.Common.{◌≡◌, ◌∙◌, sym, ap, refl, Some, None, List, ℕ, false}
use Rattle.std.proofs.lemmas.Bool.{both_ways}
use Rattle.std.proofs.lemmas.Slice.Eq.{bytes_eq-Decides}
use Rattle.clap.specs.Walk.{rows_of, first_of}
use Rattle.clap.specs.Matches.{found_of}
use Rattle.clap.proofs.WalkLemmas.{first_value-rows}
use Rattle.command_line.proofs.words.has_value.Goals as goal

same_text : (a b : List ℕ) → Some a ≡ Some b → a ≡ b
same_text a b e = cc

pub returns-in-Some : goal.returns-in-Some
returns-in-Some c =
    let found = found_of c.args.found.now in
    let id = c.args.id.now in
    let text = c.in-Some.text.now in
    let is : first_of id (rows_of found) ≡ Some text = sym (first_value-rows found id) ∙ sym c.in-Some.ensures in
    let test = bytes_eq-Decides text (c.args.value.now) in (
      (λ t. is ∙ ap (λ (l : List ℕ). Some l) (test.0 (sym c.eq.ensures ∙ t))),
      λ e. c.eq.ensures ∙ test.1 (same_text text (c.args.value.now) (sym is ∙ e)),
    )

pub returns-in-None : goal.returns-in-None
returns-in-None c =
    let found = found_of c.args.found.now in (
      (λ t. absurd (both_ways false refl t)),
      λ e. let no-text : None ≡ Some (c.args.value.now) = c.in-None.ensures ∙ first_value-rows found c.args.id.now ∙ e in cc,
    )
