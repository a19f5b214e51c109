use Rattle.std.proofs.lemmas.Str.{is_utf8-from_IsUtf8}
use Rattle.shown_names.proofs.Steps.{not_utf8}
use Rattle.shown_names.proofs.shown.ShownDisplay.fmt.Goals as goal

pub returns-in-Ok-clause-writes : goal.returns-in-Ok-clause-writes
returns-in-Ok-clause-writes g c =
    let read = c.in-Ok.ensures.cases in
    rw (is_utf8-from_IsUtf8 _ read.1, ← read.0) c.write_text.ensures

pub returns-in-Err-clause-writes : goal.returns-in-Err-clause-writes
returns-in-Err-clause-writes g c =
    rw (not_utf8 _ c.in-Err.ensures.cases.0) c.write_bytes.ensures
