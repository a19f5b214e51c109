use Rattle.std.proofs.Common.{◌+◌, [], ◌∷◌, ◌++◌, take, take_all, refl, sym, ap, ◌∙◌}
use Rattle.std.proofs.lemmas.List.{take_more}
use Rattle.history_model.specs.InOrder.{put, put_all}
use Rattle.history_model.specs.History.{stamped, stamped_cmp}
use Rattle.plain_history.proofs.Placing.{put_all-stamped_push, rows-after_release}
use Rattle.plain_history.proofs.releases.after_release.Goals as goal

pub loop-row-preserved : goal.loop-row-preserved
loop-row-preserved c =
    let number = c.args.imports + 1 in
    let so_far = take c.loop-row.row-index c.args.release.now in
    let row = c.row-item.result in
    c.in_ok-put.ensures
    ∙ ap (λ taken. put stamped_cmp (record { row = taken; import = number }) c.loop-row.after.items) c.in_ok-row.ensures
    ∙ ap (put stamped_cmp (record { row = row; import = number })) c.loop-row.invariant
    ∙ sym (put_all-stamped_push number so_far row c.args.rows.now)
    ∙ ap (λ rows. put_all stamped_cmp (stamped number rows) c.args.rows.now)
    (sym (take_more c.args.release.now c.loop-row.row-index row c.loop-row-test.true ∙ ap (λ r. so_far ++ r ∷ []) (sym c.row-item.is)))

pub returns : goal.returns
returns c =
    let number = c.args.imports + 1 in
    c.loop-row.invariant
    ∙ ap (λ rows. put_all stamped_cmp (stamped number rows) c.args.rows.now) (take_all c.loop-row.row-index c.args.release.now c.loop-row-test.false)
    ∙ sym (rows-after_release c.args.imports number c.args.rows.now c.args.release.now refl)
