use Rattle.std.proofs.Common.{Ok, Err, ap, Some, rules}
use Rattle.std.specs.Prelude.{string_bytes}
use Rattle.line_server.specs.ReplyValue.{Done as AllDone}
use Rattle.line_server.specs.Sources.{source_view}
use Rattle.command_line.specs.Preparing.{IsBrought}
use Rattle.command_line.proofs.Prepared.{brought_from, written_is_told}
use Rattle.command_line.proofs.preparing.fill.Goals as goal

pub returns-in-Ok : goal.returns-in-Ok
returns-in-Ok g c =
    let line = rw (c.in-Ok.is, c.new-source.ensures.host, c.new-source.ensures.dir) at c.bring_and_say-line.ensures in
    let written = rw c.in-Ok.is at c.tell_line-ended.ensures in
    record {
      result = Ok line.0;
      after = c.bring_and_say-line.new.store;
      brought = line.2;
      told = written_is_told c.tell_line-ended.result (string_bytes c.in-Ok.field-0) _ _ _ line.1 written;
      left_so = ap (λ disk. Some disk) c.close-disk.ensures.disk;
    }

pub returns : goal.returns
returns g c =
    let view = g.H.Host.view c.new-source.result.host.now in
    let refused : IsBrought (source_view view.is_honest (view.releases c.new-source.result.dir.now)) g.H.Disk.Disk.view c.args.wanted.name.now (Err c.in-Err.field-0) c.args.store c.bring_and_say-line.new.store =
    rw c.in-Err.is at c.bring_and_say-line.ensures in
    record {
      result = Err c.in-Err.field-0;
      after = c.bring_and_say-line.new.store;
      brought = brought_from (g.H.Host.view c.new-source.result.host.now) (g.H.Host.view c.args.host.now) c.new-source.result.dir.now c.args.wanted.releases.now g.H.Disk.Disk.view c.args.wanted.name.now (Err c.in-Err.field-0) c.args.store c.bring_and_say-line.new.store (ap (λ h. g.H.Host.view h) c.new-source.ensures.host) c.new-source.ensures.dir refused;
      told = rw c.in-Err.is at c.tell_line-ended.ensures;
      left_so = search rules;
    }
