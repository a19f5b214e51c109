use Rattle.std.proofs.Common.{◌∙◌, ap, ap₂, refl}
use Rattle.std.proofs.lemmas.Result.{IfOk-weaker}
use Rattle.clap.specs.Simple.{App, with_subcommand}
use Rattle.clap.specs.Built.{AddsSubcommand}
use Rattle.clap.specs.declared.builder.command.Command.{Command}
use Rattle.command_line.specs.Words.{empty_program, init_command, import_command, serve_command, status_command, merge_command, copy_command, digest_command, verify_command, prepare_command, demo_command}
use Rattle.command_line.specs.Private.{IsCommand}
use Rattle.command_line.proofs.words.commands.Goals as goal

added : (old sub new : Command) (a b : App) → IsCommand a old → IsCommand b sub → AddsSubcommand old sub new → IsCommand (with_subcommand a b.top) new
added old sub new a b p q h = (
  h.shape q.1 ∙ ap₂ with_subcommand p.0 (ap (λ (x : App). x.top) q.0),
  h.globals ∙ rw (p.1, q.1) refl,
)

pub returns : goal.returns
returns c =
    let one = added c.sctd.result c.in_ok-init.field-0 c.in_ok-subcommand.field-0 empty_program init_command c.sctd.ensures c.in_ok-init.ensures c.in_ok-subcommand.ensures in
    let two = added _ c.in_ok-import.field-0 c.in_ok-subcommand-2.field-0 _ import_command one c.in_ok-import.ensures c.in_ok-subcommand-2.ensures in
    let own = c.in_ok-serve.ensures in
    let three = added _ c.in_ok-serve.field-0 c.in_ok-subcommand-3.field-0 _ (serve_command own.0) two own.2 c.in_ok-subcommand-3.ensures in
    let four = added _ c.in_ok-status.field-0 c.in_ok-subcommand-4.field-0 _ status_command three c.in_ok-status.ensures c.in_ok-subcommand-4.ensures in
    let five = added _ c.in_ok-merge.field-0 c.in_ok-subcommand-5.field-0 _ merge_command four c.in_ok-merge.ensures c.in_ok-subcommand-5.ensures in
    let six = added _ c.in_ok-copy.field-0 c.in_ok-subcommand-6.field-0 _ copy_command five c.in_ok-copy.ensures c.in_ok-subcommand-6.ensures in
    let seven = added _ c.in_ok-digest.field-0 c.in_ok-subcommand-7.field-0 _ digest_command six c.in_ok-digest.ensures c.in_ok-subcommand-7.ensures in
    let eight = added _ c.in_ok-verify.field-0 c.in_ok-subcommand-8.field-0 _ verify_command seven c.in_ok-verify.ensures c.in_ok-subcommand-8.ensures in
    let nine = added _ c.in_ok-prepare.field-0 c.in_ok-subcommand-9.field-0 _ prepare_command eight c.in_ok-prepare.ensures c.in_ok-subcommand-9.ensures in
    IfOk-weaker c.subcommand-10.result _ _ (λ r h. (own.0, own.1, added c.in_ok-subcommand-9.field-0 c.demo.result r _ demo_command nine c.demo.ensures h)) c.subcommand-10.ensures
