use Rattle.std.specs.Prelude.{Err, if◌then◌else◌}
use Rattle.std.proofs.Common.{◌≡◌, ◌∙◌, refl, sym, ap}
use Rattle.std.proofs.lemmas.Bool.{false≢true}
use Rattle.question_model.specs.Questions.{row_question_of}
use Rattle.question_model.specs.Wanted.{rows_for}
use Rattle.index_answers.specs.Keys.{is_put_in_order}
use Rattle.history_model.specs.History.{rows_at}
use Rattle.history_store.specs.declared.refusal.Refusal.TheVariants as refusals
use Rattle.history_model.specs.Lists.{listed}
use Rattle.history_store.specs.Catalog.{catalog_of}
use Rattle.history_store.specs.MergeInProgress.{merge_of}
use Rattle.history_store.proofs.Lent.{reader_honest, held_after}
use Rattle.history_store.proofs.Querying.{row_items, rows_answered, closed_rows}
use Rattle.history_store.proofs.store.Store.select.Goals as goal

-- where rows were read
pub invariant_of-self : goal.invariant_of-self
invariant_of-self g c =
    let r = c.new-reader.ensures in
    let now = c.select.new.reader in
    let both = held_after g.D.Disk.view _ _ _ _ _ _ _ _ _ _ c.self.invariant.0 r.disk r.cache r.entries r.shown c.self.inside.merge now.disk.now now.cache.now now.entries.now now.shown.now c.self.invariant.1 c.select.ensures.stays.0
    (g.met.D.Disk.now_is_image c.self.inside.disk) c.in-Some.ensures.answer.1.reader.honesty in
    (both.0, both.1, c.self.invariant.2)

pub returns-in-Some-clause-answer : goal.returns-in-Some-clause-answer
returns-in-Some-clause-answer g c = rw (← c.self.view_is) (λ kept.
    let r = c.new-reader.ensures in
    let e = c.select.ensures in
    let a = c.answered.ensures in
    rows_answered g.D.Disk.view row_items (λ rows. rows_for (row_question_of c.args.question.now) (rows_at c.args.pin rows))
    (λ ls. ls ≡ c.self.inside.index.lists) _ c.answered.new.self c.self.inside.index.lists c.new-reader.result.shown.now c.new-reader.result.entries.now
    c.new-reader.result.disk.now c.select.new.reader.disk.now c.new-reader.result.cache.now c.select.new.reader.cache.now c.in-Some.read c.answered.result
    (is_put_in_order (row_question_of c.args.question.now)) (ap (λ e. e.now) e.stays.3) refl c.if-self.false r.disk r.cache r.entries r.shown
    refl (λ up. reader_honest g.D.Disk.view _ _ _ _ _ _ _ _ _ _ c.self.invariant.0 r.disk r.cache r.entries r.shown up c.if-self.false (g.met.D.Disk.now_is_image c.self.inside.disk up))
    c.in-Some.ensures.answer.1 e.stays.0 e.stays.5 e.stays.6 a.same a.left a.disk a.cache a.acknowledged)

pub returns-in-Some-clause-not_kept : goal.returns-in-Some-clause-not_kept
returns-in-Some-clause-not_kept g c =
    rw (← c.self.view_is) (λ lacks. absurd (false≢true (sym c.in-Some.ensures.answer.0 ∙ lacks)))

-- where nothing was read
pub returns-then-self-clause-answer : goal.returns-then-self-clause-answer
returns-then-self-clause-answer g c =
    rw (← c.self.view_is) (λ kept. closed_rows g.D.Disk.view row_items (λ rows. rows_for (row_question_of c.args.question.now) (rows_at c.args.pin rows)) (is_put_in_order (row_question_of c.args.question.now)) _ c.if-self.true)

pub returns-then-self-clause-not_kept : goal.returns-then-self-clause-not_kept
returns-then-self-clause-not_kept g c =
    rw (← c.self.view_is) (λ lacks. record { refused = sym (ap (λ b. Err (if b then refusals.ReopenNeeded else refusals.NotKept)) c.if-self.true); unchanged = refl })

pub returns-in-None-clause-answer : goal.returns-in-None-clause-answer
returns-in-None-clause-answer g c =
    rw (← c.self.view_is) (λ kept. absurd (false≢true (sym kept ∙ c.in-None.ensures.answer.0)))

pub returns-in-None-clause-not_kept : goal.returns-in-None-clause-not_kept
returns-in-None-clause-not_kept g c =
    let r = c.new-reader.ensures in
    let same = c.in-None.ensures.answer.1 in
    let disk = ap (λ x. x.disk.now) same ∙ r.disk in
    let cache = ap (λ x. x.cache.now) same ∙ r.cache in
    rw (← c.self.view_is) (λ lacks. record {
      refused = sym (ap (λ b. Err (if b then refusals.ReopenNeeded else refusals.NotKept)) c.if-self.false);
      unchanged = λ i. record {
        disk = disk i;
        history = record { imports = c.self.inside.directory.imports; rows = listed c.self.inside.index.lists };
        catalog = catalog_of c.self.inside.directory (merge_of c.self.inside.merge);
        needs_reopen = c.self.inside.needs_reopen;
        cache = cache i;
        words = c.self.inside.index.words;
      };
    })
