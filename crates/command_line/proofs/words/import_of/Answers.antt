use Rattle.std.proofs.Common.{◌∙◌, sym, subst, codes, refl}
use Rattle.std.proofs.lemmas.Bool.{both_ways}
use Rattle.clap.specs.Matches.{found_of}
use Rattle.clap.proofs.WalkLemmas.{first_value-rows}
use Rattle.command_line.specs.Paths.{IsNamed}
use Rattle.command_line.proofs.words.import_of.Goals as goal

pub returns-then-is_set : goal.returns-then-is_set
returns-then-is_set c =
    let rows = first_value-rows (found_of c.args.found.now) in
    let word = c.in_ok-get_str.field-0.now in
    let named = subst (λ given. IsNamed given word c.folder_and_name.result.0.now c.folder_and_name.result.1.now) (c.get_str.ensures ∙ rows (codes "releases")) c.folder_and_name.ensures in (
      refl,
      ((word, sym (rows (codes "name")) ∙ sym c.in_ok-get_str.ensures, named), c.is_set-quiet.ensures),
      c.is_set.ensures.0 c.if-is_set.true,
    )

pub returns-else-is_set : goal.returns-else-is_set
returns-else-is_set c =
    let rows = first_value-rows (found_of c.args.found.now) in
    let word = c.in_ok-get_str.field-0.now in
    let named = subst (λ given. IsNamed given word c.folder_and_name.result.0.now c.folder_and_name.result.1.now) (c.get_str.ensures ∙ rows (codes "releases")) c.folder_and_name.ensures in (
      refl,
      ((word, sym (rows (codes "name")) ∙ sym c.in_ok-get_str.ensures, named), c.is_set-quiet.ensures),
      λ given. both_ways c.is_set.result c.if-is_set.false (c.is_set.ensures.1 given),
    )
