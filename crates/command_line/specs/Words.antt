-- Which task the words of the command line ask for. Words are parsed as clap parses them for these
-- commands.
use Rattle.std.specs.Prelude.{◌≡◌, ◌↔◌, ℕ, Bool, true, List, map, codes, option_map, Option, Some, None}
use Rattle.clap.specs.Walk.{Text, Row, Rule, first_of}
use Rattle.clap.specs.Simple.{App, new_rule, new_app, with_rule, with_subcommand, subcommand_of}
use Rattle.clap.specs.Kinds.{IsAmong}
use Rattle.clap.specs.Faults.{fault_of}
use Rattle.std.specs.Str.Parse.{digits_value, without_leading_plus}
use Rattle.clap.specs.Values.{kind_of}
use Rattle.clap.specs.declared.builder.value_parser.ValueParser.{ValueParser}
use Rattle.clap.specs.declared.builder.value_parser.ValueParser.TheVariants.{Unsigned, Names}
use Rattle.clap.specs.declared.builder.action.ArgAction.TheVariants.{Set, SetTrue}
use Rattle.std.specs.Prelude.{[], ◌∷◌, false}
use Rattle.directory.specs.declared.layout.Layout.{Layout}
use Rattle.directory.specs.Listings.{number_of}
use Rattle.segment_index.specs.declared.words.Words.TheVariants as kept
use Rattle.command_line.specs.Paths.{IsNamed}
use Rattle.command_line.specs.declared.words.Task.{Task}
use Rattle.command_line.specs.declared.words.Task.TheVariants as tasks
use Rattle.command_line.specs.declared.words.Action.{Action}
use Rattle.command_line.specs.declared.words.Action.TheVariants as actions
use Rattle.command_line.specs.declared.words.Work.{Work}
use Rattle.command_line.specs.declared.words.Work.TheVariants as works
use Rattle.command_line.specs.declared.words.Refused.{Refused}
use Rattle.command_line.specs.declared.words.Refused.TheVariants as refusals

-- ---- the commands

-- an argument that has to be given
abbrev pub wanted : Text → Rule
wanted id = record (new_rule id) { value_names = 1; action = Some Set; required = true }

-- an option that has to be given: `--`, its name, and a value
abbrev pub option : Text → Rule
option id = record (wanted id) { long = Some id }

-- an option that may be given
abbrev pub optional : Text → Rule
optional id = record (option id) { required = false }

-- a flag: true if `--` and its name are given
abbrev pub flag : Text → Rule
flag id = record (new_rule id) { long = Some id; action = Some SetTrue }

-- the option `--layout` of `copy`: 2 or 3
abbrev pub copy_layout_option : Rule
copy_layout_option =
    record (option (codes "layout")) { parser = Some (Unsigned 2 3); required = false }

-- the option `--layout` of `init`: 2 or 3, and 3 if it isn't given
abbrev pub layout_option : Rule
layout_option = record copy_layout_option { defaults = codes "3" ∷ [] }

abbrev pub init_command : App
init_command =
    with_rule (with_rule (new_app (codes "init")) (option (codes "store"))) layout_option

-- a value is the word `words`, and no other
abbrev pub TakesWords : ValueParser → Type 0
TakesWords (Names names) = map (λ name. name.now) names.now ≡ codes "words" ∷ []
TakesWords parser = ⊥

-- the option `--without` of `serve`, with such a value
abbrev pub without_option : ValueParser → Rule
without_option parser = record (optional (codes "without")) { parser = Some parser }

abbrev pub serve_command : ValueParser → App
serve_command parser = with_rule (with_rule (with_rule
    (with_rule (new_app (codes "serve")) (option (codes "store"))) (option (codes "releases")))
    (flag (codes "read-only"))) (without_option parser)

abbrev pub import_command : App
import_command = with_rule (with_rule
    (with_rule (with_rule (with_rule (new_app (codes "import")) (option (codes "store")))
    (optional (codes "releases"))) (flag (codes "check"))) (flag (codes "quiet")))
    (wanted (codes "name"))

abbrev pub status_command : App
status_command = with_rule (new_app (codes "status")) (option (codes "store"))

-- the option `--segments`: from 1 to 250, and 1 if it isn't given
abbrev pub segments_option : Rule
segments_option = record (option (codes "segments")) {
  parser = Some (Unsigned 1 250);
  defaults = codes "1" ∷ [];
  required = false;
}

abbrev pub merge_command : App
merge_command =
    with_rule (with_rule (new_app (codes "merge")) (option (codes "store"))) segments_option

-- the option `--imports`: a number of imports
abbrev pub imports_option : Rule
imports_option = record (option (codes "imports")) {
  parser = Some (Unsigned 0 4294967295);
  required = false;
}

abbrev pub copy_command : App
copy_command = with_rule (with_rule
    (with_rule (with_rule (new_app (codes "copy")) (option (codes "store"))) (option (codes "to")))
    imports_option) copy_layout_option

abbrev pub digest_command : App
digest_command =
    with_rule (with_rule (new_app (codes "digest")) (option (codes "store"))) imports_option

-- the option `--list`: how many differences of a sort are told, 10 if it isn't given
abbrev pub list_option : Rule
list_option = record (option (codes "list")) {
  parser = Some (Unsigned 0 1000000);
  defaults = codes "10" ∷ [];
  required = false;
}

abbrev pub verify_command : App
verify_command = with_rule (with_rule (with_rule
    (with_rule (new_app (codes "verify")) (option (codes "store"))) (optional (codes "releases")))
    list_option) (wanted (codes "name"))

abbrev pub prepare_command : App
prepare_command = with_rule (with_rule (with_rule
    (with_rule (new_app (codes "prepare")) (option (codes "to"))) (optional (codes "releases")))
    (flag (codes "quiet"))) (wanted (codes "name"))

abbrev pub demo_command : App
demo_command = new_app (codes "demo")

-- the program, which has a version, and requires a command
abbrev pub empty_program : App
empty_program = record {
  top = record (new_app (codes "sctd")).top { subcommand_required = true; has_version = true };
  subs = [];
}

abbrev pub program : ValueParser → App
program parser =
    with_subcommand (with_subcommand (with_subcommand (with_subcommand (with_subcommand
    (with_subcommand (with_subcommand (with_subcommand (with_subcommand (with_subcommand
    empty_program init_command.top) import_command.top) (serve_command parser).top)
    status_command.top) merge_command.top) copy_command.top) digest_command.top)
    verify_command.top) prepare_command.top) demo_command.top

-- ---- what is asked for

-- this number was given by the option, or the option wasn't given
abbrev pub IsNumber : Text → List Row → Option ℕ → Type 0
IsNumber id rows None = first_of id rows ≡ None
IsNumber id rows (Some number) = (text : Text) × (first_of id rows ≡ Some text)
    × (number ≡ digits_value 10 (without_leading_plus text))

-- this layout was given, or none
abbrev pub IsLayout : List Row → Option Layout → Type 0
IsLayout rows layout = IsNumber (codes "layout") rows (option_map number_of layout)

-- the flag was given
abbrev pub IsGivenFlag : Text → List Row → Type 0
IsGivenFlag id rows = first_of id rows ≡ Some (codes "true")

-- the release, and the flag for few messages were given
abbrev pub NamesRelease : List Row → (folder name : List ℕ) → Bool → Type 0
NamesRelease rows folder name quiet =
    ((word : Text) × (first_of (codes "name") rows ≡ Some word)
    × IsNamed (first_of (codes "releases") rows) word folder name)
    × ((quiet ≡ true) ↔ IsGivenFlag (codes "quiet") rows)

-- the command of this name was given, with the arguments of this work on an open store; of a check
-- and of an import, a flag tells which it is
abbrev pub IsWork : Text → List Row → Work → Type 0
IsWork command rows (works.Import folder name quiet) = (command ≡ codes "import")
    × NamesRelease rows folder.now name.now quiet × (IsGivenFlag (codes "check") rows → ⊥)
IsWork command rows (works.Check folder name quiet) = (command ≡ codes "import")
    × NamesRelease rows folder.now name.now quiet × IsGivenFlag (codes "check") rows
IsWork command rows (works.Serve releases read_only words) =
    (command ≡ codes "serve") × (first_of (codes "releases") rows ≡ Some releases.now)
    × ((read_only ≡ true) ↔ IsGivenFlag (codes "read-only") rows)
    × ((words ≡ kept.LeftOut) ↔ (first_of (codes "without") rows ≡ Some (codes "words")))
IsWork command rows works.Status = command ≡ codes "status"
IsWork command rows (works.Merge segments) =
    (command ≡ codes "merge") × IsNumber (codes "segments") rows (Some segments)
IsWork command rows (works.Digest imports) =
    (command ≡ codes "digest") × IsNumber (codes "imports") rows imports
IsWork command rows (works.Verify folder name list) =
    (command ≡ codes "verify") × IsNumber (codes "list") rows (Some list)
    × ((word : Text) × (first_of (codes "name") rows ≡ Some word)
    × IsNamed (first_of (codes "releases") rows) word folder.now name.now)

-- the command of this name was given, with the arguments of this action on the file of a store
abbrev pub IsAction : Text → List Row → Action → Type 0
IsAction command rows (actions.Init layout) =
    (command ≡ codes "init") × IsLayout rows (Some layout)
IsAction command rows (actions.Copy to imports layout) = (command ≡ codes "copy")
    × (first_of (codes "to") rows ≡ Some to.now) × IsNumber (codes "imports") rows imports
    × IsLayout rows layout
IsAction command rows (actions.Use work) = IsWork command rows work

-- a command was given with the arguments of this task
abbrev pub Reads : Option (Text × List Row) → Task → Type 0
Reads None task = ⊥
Reads (Some read) (tasks.At store action) =
    (first_of (codes "store") read.1 ≡ Some store.now) × IsAction read.0 read.1 action
Reads (Some read) (tasks.Prepare to folder name quiet) = (read.0 ≡ codes "prepare")
    × (first_of (codes "to") read.1 ≡ Some to.now)
    × NamesRelease read.1 folder.now name.now quiet
Reads (Some read) tasks.Demo = read.0 ≡ codes "demo"

-- the words, whose first is the program's name, are valid and ask for the task
abbrev pub AskFor : List Text → Task → Type 0
AskFor words task = (parser : ValueParser) × TakesWords parser
    × (fault_of (program parser) words ≡ []) × Reads (subcommand_of (program parser) words) task

-- why the words ask for no task; memory may run out
abbrev pub AskForNone : List Text → Refused → Type 0
AskForNone words refusals.OutOfMemory = Unit {0}
AskForNone words (refusals.Words error) = (parser : ValueParser) × TakesWords parser
    × IsAmong (kind_of error) (fault_of (program parser) words)
