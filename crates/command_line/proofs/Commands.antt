-- The program's commands are such that clap says how it reads words by them.
use Rattle.std.proofs.Common.{◌≡◌, List, [], true, refl, subst, inl, inr}
use Rattle.clap.specs.Walk.{Text}
use Rattle.clap.specs.Simple.{App, HasMatchesOf, is_simple, subcommand_rows_of}
use Rattle.clap.specs.Faults.{fault_of, is_simple_and_free}
use Rattle.clap.specs.Kinds.{HasKind, IsAmong}
use Rattle.clap.specs.Values.{kind_of}
use Rattle.clap.specs.declared.error.Error.{Error}
use Rattle.clap.specs.declared.error.kind.ErrorKind.TheVariants as kind
use Rattle.clap.specs.declared.parser.matches.ArgMatches.{ArgMatches}
use Rattle.command_line.specs.declared.words.Task.{Task}
use Rattle.clap.specs.declared.builder.value_parser.ValueParser.{ValueParser}
use Rattle.command_line.specs.Words.{AskFor, Reads, TakesWords, program}

program_is_simple : (parser : ValueParser) → is_simple (program parser) ≡ true
program_is_simple parser = refl

program_is_free : (parser : ValueParser) → is_simple_and_free (program parser) ≡ true
program_is_free parser = refl

pub asked_for : (app : App) (words : List Text) (m : ArgMatches) (task : Task) (parser : ValueParser) → TakesWords parser → app ≡ program parser
    → (is_simple_and_free app ≡ true → fault_of app words ≡ []) → HasMatchesOf app words m
    → Reads (subcommand_rows_of m) task → AskFor words task
asked_for app words m task parser takes is kinds matches reads =
    let none = subst (λ (a : App). is_simple_and_free a ≡ true → fault_of a words ≡ []) is kinds in
    let found = subst (λ (a : App). HasMatchesOf a words m) is matches in
    (parser, takes, none (program_is_free parser), subst (λ r. Reads r task) (found (program_is_simple parser)).1 reads)

pub asked_for_none : (app : App) (words : List Text) (error : Error) (parser : ValueParser) → app ≡ program parser
    → (is_simple_and_free app ≡ true → HasKind (fault_of app words) error)
    → (kind_of error ≡ kind.OutOfMemory → ⊥) → IsAmong (kind_of error) (fault_of (program parser) words)
asked_for_none app words error parser is kinds has_memory =
    let has = subst
    (λ (a : App). is_simple_and_free a ≡ true → HasKind (fault_of a words) error) is kinds in
    among (has (program_is_free parser))
  where
    among : HasKind (fault_of (program parser) words) error
        → IsAmong (kind_of error) (fault_of (program parser) words)
    among (inl no_memory) = absurd (has_memory no_memory)
    among (inr h) = h
