use Rattle.std.proofs.Common.{◌∙◌, sym, subst, codes, refl}
use Rattle.clap.specs.Matches.{found_of}
use Rattle.clap.proofs.WalkLemmas.{first_value-rows}
use Rattle.command_line.specs.Paths.{IsNamed}
use Rattle.command_line.proofs.words.prepare_of.Goals as goal

pub returns : goal.returns
returns c =
    let rows = first_value-rows (found_of c.args.found.now) in
    let word = c.in_ok-path.path.now in
    let named = subst (λ given. IsNamed given word c.folder_and_name.result.0.now c.folder_and_name.result.1.now) (c.get_str-3.ensures ∙ rows (codes "releases")) c.folder_and_name.ensures in (
      refl,
      sym (rows (codes "to")) ∙ sym c.in_ok-to.ensures,
      ((word, sym (rows (codes "name")) ∙ sym c.in_ok-path.ensures, named), c.is_set-quiet.ensures),
    )
