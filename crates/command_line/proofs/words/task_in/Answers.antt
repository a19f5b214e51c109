use Rattle.std.proofs.Common.{◌≡◌, ◌∙◌, sym, ap₂, List, Option, Some, None, option_map, codes, IfSome}
use Rattle.std.specs.Prelude.{Box}
use Rattle.std.specs.Box.{box_value}
use Rattle.clap.specs.Walk.{Text, Row, rows_of, first_of}
use Rattle.clap.specs.Simple.{subcommand_rows, subcommand_rows_of}
use Rattle.clap.specs.Matches.{found_of, subcommand_name_of, first_value}
use Rattle.clap.specs.declared.parser.matches.Found.{Found}
use Rattle.clap.specs.declared.parser.matches.ArgMatches.{ArgMatches}
use Rattle.clap.specs.declared.parser.matches.ArgMatches.TheViews.{out-ArgMatches, out-SubCommand}
use Rattle.clap.specs.declared.parser.matches.SubCommand.{SubCommand}
use Rattle.clap.proofs.WalkLemmas.{first_value-rows}
use Rattle.command_line.proofs.words.task_in.Goals as goal

abbrev pair : Text → List Row → Option (Text × List Row)
pair name rows = Some (name, rows)

-- what is known of a subcommand, part by part
met_so : {Z : Type 0} (o : Option (Box SubCommand Z)) (n : Text) (rows : List Row)
    → Some n ≡ option_map (λ b. (out-SubCommand (box_value b)).name.now) o
    → Some rows ≡ option_map (λ p. p.1) (subcommand_rows o)
    → subcommand_rows o ≡ pair n rows
met_so None n rows p q = let no : Some n ≡ None = p in cc
met_so (Some b) n rows p q =
    let left : Some n ≡ Some ((out-SubCommand (box_value b)).name.now) = p in
    let right : Some rows ≡ Some (rows_of (found_of (out-SubCommand (box_value b)).matches)) = q in
    let name_is : (out-SubCommand (box_value b)).name.now ≡ n = cc in
    let rows_are : rows_of (found_of (out-SubCommand (box_value b)).matches) ≡ rows = cc in
    ap₂ pair name_is rows_are

met : (m : ArgMatches) (n : Text) (rows : List Row)
    → Some n ≡ subcommand_name_of m
    → Some rows ≡ option_map (λ p. p.1) (subcommand_rows (out-ArgMatches m).subcommand)
    → subcommand_rows_of m ≡ pair n rows
met m n rows p q = met_so (out-ArgMatches m).subcommand n rows p q

-- the value of an option, in the rows
given : (f : Found) (id value : Text) → Some value ≡ first_value f id → first_of id (rows_of f) ≡ Some value
given f id value is = sym (first_value-rows f id) ∙ sym is

pub returns : goal.returns
returns c =
    let found = found_of c.in_ok-command.found.now in
    let is = met c.args.matches.now c.in_ok-command.command.now (rows_of found) c.in_ok-command.ensures.name c.in_ok-command.ensures.rows in
    rw is (
      given found (codes "store") c.in_ok-store.store.now c.in_ok-store.ensures,
      c.in_ok-action.ensures,
    )
