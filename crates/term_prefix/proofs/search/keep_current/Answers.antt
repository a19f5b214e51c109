use Rattle.std.proofs.Common.{◌++◌, get_or, sym, subst, take, take_all, append-nil}
use Rattle.std.specs.Prelude.{flat_map}
use Rattle.history_model.proofs.Items.{Has-get_or}
use Rattle.term_prefix.specs.declared.text.Term.{Term}
use Rattle.term_prefix.specs.Private.{chosen_at, AreKept}
use Rattle.term_prefix.proofs.FirstKept.{no_bounds, pieces_more}
use Rattle.term_prefix.proofs.search.keep_current.Goals as goal

pub loop-term-init : goal.loop-term-init
loop-term-init c = λ lists listed_so described seen start.
    let a = c.args in
    (subst (λ ks. AreKept lists a.search.now ks a.kept.now.items) (sym (append-nil seen)) start, no_bounds lists a.search.now.after a.search.now.limit a.segment a.kept.now.items)

pub loop-term-preserved : goal.loop-term-preserved
loop-term-preserved c = λ lists listed_so described seen start.
    let a = c.args in
    let i = c.loop-term.term-index in
    let first : Term = record { head = 0; start = 0; len = 0; row = 0 } in
    let t = get_or a.terms.now i first in
    let so_far = c.loop-term.invariant lists listed_so described seen start in
    let some = seen ++ flat_map (λ (t : Term). chosen_at lists a.segment t.row) (take i a.terms.now) in
    rw (pieces_more seen (λ (t : Term). chosen_at lists a.segment t.row) a.terms.now i first c.loop-term-test.true)
    (c.in_ok-keep_row.ensures lists listed_so (described t (Has-get_or a.terms.now i first c.loop-term-test.true)) some so_far.0 so_far.1)

pub returns : goal.returns
returns c = λ lists listed_so described seen start.
    let a = c.args in
    subst (λ ts. AreKept lists a.search.now (seen ++ flat_map (λ (t : Term). chosen_at lists a.segment t.row) ts) c.loop-term.kept.items) (take_all c.loop-term.term-index a.terms.now c.loop-term-test.false) (c.loop-term.invariant lists listed_so described seen start).0
