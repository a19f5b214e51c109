use Rattle.std.proofs.Common.{ap, refl, ◌∙◌, ℕ, zero, suc, List, Ok, inl, inr, arith}
use Rattle.std.specs.Prelude.{Option}
use Rattle.std.proofs.lemmas.Bool.Decides.{leb_tells}
use Rattle.rf2_values.specs.declared.row.Kind.{Kind}
use Rattle.rf2_values.specs.declared.key.Key.{Key}
use Rattle.question_model.specs.Questions.{Added}
use Rattle.line_server.specs.Replies.{IsNumber, IsUnseen}
use Rattle.std.proofs.lemmas.Result.{err_from_is_err_and}
use Rattle.rf2_values.specs.Row.{RowValue}
use Rattle.line_server.specs.ReplyValue.{Rows, reply_value}
use Rattle.line_server.proofs.Queried.{added_found, added_unfound, added_untold}
use Rattle.line_server.proofs.Responding.{added_unseen}
use Rattle.line_server.proofs.queries.answer_added.Goals as goal

unseen_of : (seen number : ℕ) (kind : Kind) (after : Option Key) (limit : ℕ) → (IsNumber seen number → ⊥) → IsUnseen seen (Added number kind after limit)
unseen_of seen zero kind after limit none = inl refl
unseen_of seen (suc n) kind after limit none = inr (elim (leb_tells (suc n) seen) [ inl t ↦ absurd (none (omega arith, t.1)) | inr t ↦ t.1 ])

pub returns : goal.returns
returns g c = added_unseen g.D.Disk.view c.args.number c.args.kind c.args.after c.args.limit c.args.pin c.args.store.now
    (unseen_of c.args.pin c.args.number c.args.kind c.args.after c.args.limit (λ within. let yes = c.is_seen.ensures.1 within in let no = c.if-is_seen.false in absurd (cc)))

pub returns-in_err-found : goal.returns-in_err-found
returns-in_err-found g c =
    let p = err_from_is_err_and c.from_residual.result c.from_residual.ensures.1 in
    rw (p.1, p.2) (added_unfound g.D.Disk.view c.args.number c.args.kind c.args.after c.args.limit c.args.pin c.args.store.now c.added.new.self (c.is_seen.ensures.0 c.if-is_seen.true) c.in_err-found.field-0.0 c.in_err-found.ensures.answer)

pub returns-in_err-reply_rows : goal.returns-in_err-reply_rows
returns-in_err-reply_rows g c =
    let p = err_from_is_err_and c.from_residual-in_err-reply_rows.result c.from_residual-in_err-reply_rows.ensures.1 in
    rw (p.1, p.2) (added_untold g.D.Disk.view c.args.number c.args.kind c.args.after c.args.limit c.args.pin c.args.store.now c.added.new.self (c.is_seen.ensures.0 c.if-is_seen.true) c.in_ok-found.found c.in_ok-found.ensures.answer)

pub returns-then-is_seen : goal.returns-then-is_seen
returns-then-is_seen g c =
    added_found g.D.Disk.view c.args.number c.args.kind c.args.after c.args.limit c.args.pin c.args.store.now c.added.new.self (c.is_seen.ensures.0 c.if-is_seen.true) c.in_ok-found.found c.in_ok-reply_rows.field-0 c.in_ok-found.ensures.answer
    (c.in_ok-reply_rows.ensures ∙ ap (λ (xs : List RowValue). reply_value (Ok (Rows xs))) c.deref.ensures.value)
