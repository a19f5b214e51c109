use Rattle.std.proofs.Common.{refl, sym, ◌∙◌}
use Rattle.term_words.proofs.Groups.{one_group, no_group, other_type, no_measure}
use Rattle.term_words.proofs.grouping.add_group.Goals as goal

pub returns-then-not-is_of_type : goal.returns-then-not-is_of_type
returns-then-not-is_of_type c = no_group c.args.rows.now c.args.segment c.args.wanted_type c.args.e.now c.args.groups.now.items (other_type c.args.wanted_type c.args.e.now.key c.in-Measure.length c.in-Measure.type_id c.in-Measure.is (sym c.is_of_type.ensures ∙ c.if-not-is_of_type.true))

pub returns-in_ok-push-in-Measure : goal.returns-in_ok-push-in-Measure
returns-in_ok-push-in-Measure c =
    one_group c.args.rows.now c.args.segment c.args.wanted_type c.args.e.now (record { len = c.in-Measure.length; segment = c.args.segment; first = c.args.e.now.first; rows = c.rows_of.result }) c.args.groups.now.items c.push.new.self.items (record {
      type_id = c.in-Measure.type_id;
      key_is = c.in-Measure.is;
      of_type = sym c.is_of_type.ensures ∙ c.if-not-is_of_type.false;
      segment_is = refl;
      first_is = refl;
      rows_are = c.rows_of.ensures;
    }) c.in_ok-push-in-Measure.ensures.items

pub returns-in-Word : goal.returns-in-Word
returns-in-Word c = no_group c.args.rows.now c.args.segment c.args.wanted_type c.args.e.now c.args.groups.now.items (no_measure c.args.wanted_type c.args.e.now.key _ _ c.in-Word.is)
