use Rattle.shown_names.specs.Shown.{shown}
use Rattle.shown_names.proofs.Seen.{shown_seen, bytes_printable}
use Rattle.shown_names.proofs.laws.no_control_characters.Goals as goal

pub returns-clause-characters : goal.returns-clause-characters
returns-clause-characters c = shown_seen c.args.name.now

pub returns-clause-bytes : goal.returns-clause-bytes
returns-clause-bytes c = bytes_printable (shown c.args.name.now) (shown_seen c.args.name.now)
