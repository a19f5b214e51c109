use Rattle.std.proofs.Common.{rules, ◌+◌, List, sym, ap, subst, ◌∙◌, arith}
use Rattle.std.specs.Option.{is_some}
use Rattle.list_lemmas.proofs.Tests.{none_from_test}
use Rattle.directory.specs.declared.entry.Entry.{Entry}
use Rattle.directory.proofs.Reading.{HasRead, none_read, next_read, met_is, no_table_without_next, no_table_with_overlap}
use Rattle.directory.proofs.decoding.read_entries.Goals as goal

pub loop-init : goal.loop-init
loop-init c =
    let made = c.in_ok-entries.ensures in
    record {
      read = subst (λ (entries : List Entry). HasRead c.args.bytes.now c.args.count 0 entries c.args.bytes.now) (sym made.items) (none_read c.args.bytes.now c.args.count c.requires.there);
      len_is = made.len;
      room = omega (arith, made.exact);
    }

pub returns-in_default-clause-only : goal.returns-in_default-clause-only
returns-in_default-clause-only c _ table is =
    no_table_without_next c.args.bytes.now c.args.count c.loop.counter c.loop.entries.items table c.loop.rest.now c.loop.invariant.read c.loop-test.true c.in_default.ensures.only is

pub returns-then-is_some-clause-only : goal.returns-then-is_some-clause-only
returns-then-is_some-clause-only c _ table is =
    let met = met_is c.extent_met-met.result c.in-Some.entry c.extent-extent.result c.from.result c.blocks-in-loop.result c.from-in-loop.result c.loop.entries.items c.as_slice.result.now
    c.extent_met-met.ensures c.extent-extent.ensures c.from.ensures c.from-in-loop.ensures c.blocks-in-loop.ensures c.as_slice.ensures.value in
    no_table_with_overlap c.args.bytes.now c.args.count c.loop.counter c.loop.entries.items table c.loop.rest.now c.in-Some.behind.now c.in-Some.entry c.loop.invariant.read c.loop-test.true
    c.in-Some.ensures.found c.in-Some.ensures.allowed (sym (ap is_some met) ∙ sym c.is_some.ensures ∙ c.if-is_some.true) is

pub loop-preserved : goal.loop-preserved
loop-preserved c =
    let met = met_is c.extent_met-met.result c.in-Some.entry c.extent-extent.result c.from.result c.blocks-in-loop.result c.from-in-loop.result c.loop.entries.items c.as_slice.result.now
    c.extent_met-met.ensures c.extent-extent.ensures c.from.ensures c.from-in-loop.ensures c.blocks-in-loop.ensures c.as_slice.ensures.value in
    let pushed = c.in-Ok.ensures in
    record {
      read = subst (λ (entries : List Entry). HasRead c.args.bytes.now c.args.count (c.loop.counter + 1) entries c.in-Some.behind.now) (sym pushed.items)
          (next_read c.args.bytes.now c.args.count c.loop.counter c.loop.entries.items c.loop.rest.now c.in-Some.behind.now c.in-Some.entry c.loop.invariant.read c.in-Some.ensures.found c.in-Some.ensures.allowed
          (sym met ∙ none_from_test c.extent_met-met.result (sym c.is_some.ensures ∙ c.if-is_some.false)));
      len_is = pushed.len ∙ ap (λ n. n + 1) c.loop.invariant.len_is;
      room = search (rules);
    }
