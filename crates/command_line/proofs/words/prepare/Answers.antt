use Rattle.std.proofs.Common.{◌∙◌, ap₂, refl, codes}
use Rattle.std.proofs.lemmas.Result.{IfOk-weaker}
use Rattle.clap.specs.Walk.{Rule}
use Rattle.clap.specs.Simple.{App, new_app, with_rule}
use Rattle.clap.specs.Built.{AddsArg}
use Rattle.clap.specs.declared.builder.command.Command.{Command}
use Rattle.clap.specs.declared.builder.arg.Arg.{Arg}
use Rattle.command_line.specs.Words.{wanted, option, optional, flag}
use Rattle.command_line.specs.Private.{IsArgument, IsCommand}
use Rattle.command_line.proofs.words.prepare.Goals as goal

added : (old : Command) (arg : Arg) (new : Command) (a : App) (rule : Rule) → IsCommand a old → IsArgument rule arg → AddsArg old arg new → IsCommand (with_rule a rule) new
added old arg new a rule p q h = (
  h.shape q.1 ∙ ap₂ with_rule p.0 q.0,
  h.globals ∙ rw (p.1, q.1) refl,
)

pub returns : goal.returns
returns c =
    let one = added c.new_command.result c.prepared.result c.in_ok-arg.field-0 (new_app (codes "prepare")) (option (codes "to")) c.new_command.ensures c.prepared.ensures c.in_ok-arg.ensures in
    let two = added c.in_ok-arg.field-0 c.releases_if_given.result c.in_ok-arg-2.field-0 _ (optional (codes "releases")) one c.releases_if_given.ensures c.in_ok-arg-2.ensures in
    let three = added c.in_ok-arg-2.field-0 c.quiet.result c.in_ok-arg-3.field-0 _ (flag (codes "quiet")) two c.quiet.ensures c.in_ok-arg-3.ensures in
    IfOk-weaker c.arg-4.result _ _ (λ r h. added c.in_ok-arg-3.field-0 c.name.result r _ (wanted (codes "name")) three c.name.ensures h) c.arg-4.ensures
