use Rattle.std.proofs.Common.{◌+◌, ◌≤◌, subst, arith}
use Rattle.std.specs.List.{sum_by}
use Rattle.import_check.specs.Known.{already_known}
use Rattle.import_check.specs.Release.{rows_of}
use Rattle.import_check.proofs.Asking.{more_sorted}
use Rattle.import_check.proofs.Receipts.{one_list}
use Rattle.import_check.proofs.Refusals.{ascending, of_release, was_read}
use Rattle.import_check.proofs.Differing.{sorted_ascends, listed_of}
use Rattle.import_check.proofs.Blaming.{listed_possible, refused_by_key, cut_short_by_key, none_sorted}
use Rattle.import_check.proofs.contradicting.find_contradictions.Goals as goal

pub returns-clause-found : goal.returns-clause-found
returns-clause-found g c = λ honest.
    let rows = (g.K.Known.view c.args.known.now).rows in
    let lines = c.in_ok-lines.lines.items in
    let sorted = c.sort.new.lines.items in
    let placed = ascending c.args.release lines c.in_ok-lines.ensures.ok in
    let up = sorted_ascends lines sorted placed c.sort.ensures.permutation c.sort.ensures.rising in
    listed_of rows c.args.release c.args.limit lines sorted (g.met.K.Known.consistent c.args.known.now honest) c.in_ok-lines.ensures.ok placed c.sort.ensures.permutation c.compare_all.result (c.compare_all.ensures.sifted honest up)

pub returns-clause-possible : goal.returns-clause-possible
returns-clause-possible g c = λ sound.
    let known = g.K.Known.view c.args.known.now in
    let lines = c.in_ok-lines.lines.items in
    let sorted = c.sort.new.lines.items in
    let placed = ascending c.args.release lines c.in_ok-lines.ensures.ok in
    let up = sorted_ascends lines sorted placed c.sort.ensures.permutation c.sort.ensures.rising in
    listed_possible known.rows known.may_be lines sorted placed c.sort.ensures.permutation c.args.release c.args.limit c.in_ok-lines.ensures.ok c.compare_all.result (c.compare_all.ensures.possible sound up)

pub returns-clause-work : goal.returns-clause-work
returns-clause-work g c = λ sound rows are.
    let known = (g.K.Known.view c.args.known.now).rows in
    let lines = c.in_ok-lines.lines.items in
    let sorted = c.sort.new.lines.items in
    let up = sorted_ascends lines sorted (ascending c.args.release lines c.in_ok-lines.ensures.ok) c.sort.ensures.permutation c.sort.ensures.rising in
    let asked = c.compare_all.ensures.work sound up in
    let more = more_sorted g.K.Known.cost known lines sorted c.sort.ensures.permutation in
    let same = one_list c.args.release (rows_of lines) rows (of_release (g.K.Known.view c.args.known.now).is_honest known c.args.release lines c.in_ok-lines.ensures.ok) are in
    subst (λ rs. (g.K.Known.view c.compare_all.new.known).work ≤ (g.K.Known.view c.args.known.now).work + sum_by g.K.Known.cost (already_known known rs)) same (omega (arith, asked, more))

pub returns-clause-work_unread : goal.returns-clause-work_unread
returns-clause-work_unread g c = λ unread. absurd (unread (was_read (g.K.Known.view c.args.known.now).is_honest (g.K.Known.view c.args.known.now).rows c.args.release c.in_ok-lines.lines.items c.in_ok-lines.ensures.ok))

pub returns-clause-causes : goal.returns-clause-causes
returns-clause-causes g c = λ sound.
    let known = g.K.Known.view c.args.known.now in
    let lines = c.in_ok-lines.lines.items in
    let sorted = c.sort.new.lines.items in
    let up = sorted_ascends lines sorted (ascending c.args.release lines c.in_ok-lines.ensures.ok) c.sort.ensures.permutation c.sort.ensures.rising in
    refused_by_key known.rows known.may_be c.args.release lines c.in_ok-lines.ensures.ok c.compare_all.result
    (cut_short_by_key known.is_honest known.rows known.may_be lines c.compare_all.result c.compare_all.ensures.cut_short
    (λ none. c.compare_all.ensures.causes sound up (none_sorted known.rows lines sorted c.sort.ensures.permutation none)))
