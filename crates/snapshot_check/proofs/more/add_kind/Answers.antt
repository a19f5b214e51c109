use Rattle.std.proofs.Common.{◌≡◌, [], ◌++◌, refl, sym, ap, subst, ◌∙◌, append_assoc, arith}
use Rattle.std.specs.Prelude.{Some, None}
use Rattle.std.proofs.lemmas.Result.{err_from_is_err_and}
use Rattle.history_model.specs.Laws.{last_id}
use Rattle.history_model.specs.Queries.{page, all_above}
use Rattle.snapshot_check.specs.Differences.{ShownRows, TellsMore, IsExpected}
use Rattle.snapshot_check.specs.Private.{AddsMore}
use Rattle.snapshot_check.proofs.Paging.{page_then, fewer_left, page_ends}
use Rattle.snapshot_check.proofs.Picking.{adds_none, adds_both}
use Rattle.snapshot_check.proofs.Taking.{adds_more_so, failed_after}
use Rattle.snapshot_check.proofs.more.add_kind.Goals as goal

pub pages-init : goal.pages-init
pages-init g c = record {
  adds = ([], refl, λ rows sorted. adds_none (TellsMore (g.S.Shown.reads c.args.shown.now) rows) (IsExpected (g.S.Shown.reads c.args.shown.now) rows) c.args.limit c.args.more.now);
  stays = g.met.S.Shown.stays_still c.args.shown.now;
}

pub pages-smaller : goal.pages-smaller
pages-smaller g c =
    let at = g.S.Shown.at_date c.args.shown.now in
    let same = g.met.S.Shown.same c.args.shown.now c.pages.shown c.pages.invariant.stays in
    let up = c.requires in
    let last = subst (λ (s : ShownRows). Some c.in-Some.last ≡ last_id None (page c.args.kind s.date c.pages.after 1000 s.rows)) same (rw c.in-Some.is at c.in_ok-last.ensures.last) in
    fewer_left c.args.kind at.date 1000 at.rows up c.pages.after c.in-Some.last last

pub pages-preserved : goal.pages-preserved
pages-preserved g c =
    let at = g.S.Shown.at_date c.args.shown.now in
    let reads = g.S.Shown.reads c.args.shown.now in
    let before = c.pages.invariant in
    let same = g.met.S.Shown.same c.args.shown.now c.pages.shown before.stays in
    let up = c.requires in
    let last = subst (λ (s : ShownRows). Some c.in-Some.last ≡ last_id None (page c.args.kind s.date c.pages.after 1000 s.rows)) same (rw c.in-Some.is at c.in_ok-last.ensures.last) in
    let those = page c.args.kind at.date c.pages.after 1000 at.rows in
    let split = page_then c.args.kind at.date 1000 at.rows up c.pages.after c.in-Some.last last in
    let done = before.adds.0 in
    record {
      adds = (
        done ++ those,
        before.adds.1 ∙ ap (λ ys. done ++ ys) split ∙ sym (append_assoc done those (all_above c.args.kind at.date (Some c.in-Some.last) at.rows)),
        λ rows sorted. adds_both (TellsMore reads rows) (IsExpected reads rows) c.args.limit done those c.args.more.now c.pages.more c.add_page.new.more (before.adds.2 rows sorted)
            (adds_more_so (g.S.Shown.reads c.pages.shown) reads (λ read wanted may. g.met.S.Shown.steady c.args.shown.now c.pages.shown before.stays read wanted may) rows those c.args.limit c.pages.more c.add_page.new.more
            (subst (λ (s : ShownRows). AddsMore (g.S.Shown.reads c.pages.shown) rows (page c.args.kind s.date c.pages.after 1000 s.rows) c.args.limit c.pages.more c.add_page.new.more) same (c.in_ok-last.ensures.adds rows sorted))),
      );
      stays = g.met.S.Shown.stays_on c.args.shown.now c.pages.shown c.add_page.new.shown before.stays c.in_ok-last.ensures.stays;
    }

pub returns-clause-adds : goal.returns-clause-adds
returns-clause-adds g c = λ rows sorted.
    let at = g.S.Shown.at_date c.args.shown.now in
    let reads = g.S.Shown.reads c.args.shown.now in
    let before = c.pages.invariant in
    let same = g.met.S.Shown.same c.args.shown.now c.pages.shown before.stays in
    let up = c.requires in
    let last = subst (λ (s : ShownRows). None ≡ last_id None (page c.args.kind s.date c.pages.after 1000 s.rows)) same (rw c.in_default.is at c.in_ok-last.ensures.last) in
    let those = page c.args.kind at.date c.pages.after 1000 at.rows in
    let ends = page_ends c.args.kind at.date 1000 at.rows up c.pages.after (omega arith) last in
    let done = before.adds.0 in
    subst (λ ys. AddsMore reads rows ys c.args.limit c.args.more.now c.add_page.new.more)
    (ap (λ ys. done ++ ys) (ends.0 ∙ sym ends.1) ∙ sym before.adds.1)
    (adds_both (TellsMore reads rows) (IsExpected reads rows) c.args.limit done those c.args.more.now c.pages.more c.add_page.new.more (before.adds.2 rows sorted)
    (adds_more_so (g.S.Shown.reads c.pages.shown) reads (λ read wanted may. g.met.S.Shown.steady c.args.shown.now c.pages.shown before.stays read wanted may) rows those c.args.limit c.pages.more c.add_page.new.more
    (subst (λ (s : ShownRows). AddsMore (g.S.Shown.reads c.pages.shown) rows (page c.args.kind s.date c.pages.after 1000 s.rows) c.args.limit c.pages.more c.add_page.new.more) same (c.in_ok-last.ensures.adds rows sorted))))

pub returns-clause-stays : goal.returns-clause-stays
returns-clause-stays g c = g.met.S.Shown.stays_on c.args.shown.now c.pages.shown c.add_page.new.shown c.pages.invariant.stays c.in_ok-last.ensures.stays

pub returns-in_err-last-clause-fails : goal.returns-in_err-last-clause-fails
returns-in_err-last-clause-fails g c =
    let p = err_from_is_err_and c.from_residual.result c.from_residual.ensures.1 in
    let before = c.pages.invariant.stays in
    rw (p.1, p.2) (failed_after _ _ _ _ _ _
    (λ s. g.met.S.Shown.stays_on c.args.shown.now c.pages.shown c.add_page.new.shown before s)
    (λ e f. g.met.S.Shown.fails_on e c.args.shown.now c.pages.shown c.add_page.new.shown before f)
    c.in_err-last.ensures.fails)
