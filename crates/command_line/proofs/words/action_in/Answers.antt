use Rattle.std.proofs.Common.{◌∙◌, sym, codes}
use Rattle.clap.specs.Matches.{found_of}
use Rattle.clap.proofs.WalkLemmas.{first_value-rows}
use Rattle.command_line.proofs.words.action_in.Goals as goal

pub returns-in_ok-layout_of-in-copy : goal.returns-in_ok-layout_of-in-copy
returns-in_ok-layout_of-in-copy c = (
  c.in-copy.is,
  sym (first_value-rows (found_of c.args.found.now) (codes "to")) ∙ sym c.in_ok-get_str-in-copy.ensures,
  c.in_ok-number_of-in-copy.ensures,
  c.in_ok-layout_of-in-copy.ensures,
)
