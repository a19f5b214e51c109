use Rattle.std.proofs.lemmas.Result.{err_from_is_err_and}
use Rattle.line_server.proofs.Queried.{digest_found, digest_unfound, digest_untold}
use Rattle.line_server.proofs.queries.answer_digest.Goals as goal

pub returns-in_err-found : goal.returns-in_err-found
returns-in_err-found g c =
    let p = err_from_is_err_and c.from_residual.result c.from_residual.ensures.1 in
    rw (p.1, p.2) (digest_unfound g.D.Disk.view c.args.pin c.args.store.now c.digest.new.store c.in_err-found.field-0.0 c.in_err-found.ensures.answer)

pub returns-in_err-reply_digest : goal.returns-in_err-reply_digest
returns-in_err-reply_digest g c =
    let p = err_from_is_err_and c.from_residual-in_err-reply_digest.result c.from_residual-in_err-reply_digest.ensures.1 in
    rw (p.1, p.2) (digest_untold g.D.Disk.view c.args.pin c.args.store.now c.digest.new.store c.in_ok-found.found c.in_ok-found.ensures.answer)

pub returns : goal.returns
returns g c =
    digest_found g.D.Disk.view c.args.pin c.args.store.now c.digest.new.store c.in_ok-found.found c.in_ok-reply_digest.field-0 c.in_ok-reply_digest.ensures.bytes c.in_ok-found.ensures.answer c.in_ok-reply_digest.ensures.reply
