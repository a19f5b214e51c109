use Rattle.std.proofs.Common.{refl}
use Rattle.line_commands.specs.Requests.{import_line}
use Rattle.command_line.proofs.importing.import.Goals as goal

pub carried_out-outcome-requires : goal.carried_out-outcome-requires
carried_out-outcome-requires g c = (import_line c.args.name.now, c.import_request.ensures)

pub returns : goal.returns
returns g c =
    let done = c.carried_out-outcome.ensures (import_line c.args.name.now) c.import_request.ensures in
    let t = done.turn in (
      c.carried_out-outcome.new.store.disk,
      record {
        state = done.state;
        after = c.carried_out-outcome.new.store;
        told = (t.0, t.1, t.2, c.tell-ended.ensures t.0.outcome t.3);
        left_so = refl;
      },
      c.tell_warnings.ensures,
    )
