use Rattle.std.proofs.Common.{ap, arith}
use Rattle.rf2_values.proofs.Lengths.{texts_length, own_short, no_texts}
use Rattle.rf2_values.proofs.FurtherColumns.{further_length}
use Rattle.rf2_values.proofs.length.texts_len.Goals as goal

pub returns-in-Description-clause-many : goal.returns-in-Description-clause-many
returns-in-Description-clause-many c =
    omega (arith, own_short c.args.body.now c.requires, ap texts_length c.in-Description.is, c.text_len.ensures.value, c.text_len-in-Description.ensures.value)

pub returns-in-Concept-clause-many : goal.returns-in-Concept-clause-many
returns-in-Concept-clause-many c = omega (arith, own_short c.args.body.now c.requires, no_texts c.args.body.now c.in-Concept.is)

pub returns-in-Concept-2-clause-many : goal.returns-in-Concept-2-clause-many
returns-in-Concept-2-clause-many c = omega (arith, own_short c.args.body.now c.requires, no_texts c.args.body.now c.in-Concept.is)

pub returns-in-Concept-3-clause-many : goal.returns-in-Concept-3-clause-many
returns-in-Concept-3-clause-many c = omega (arith, own_short c.args.body.now c.requires, no_texts c.args.body.now c.in-Concept.is)

pub returns-in-Concrete-clause-many : goal.returns-in-Concrete-clause-many
returns-in-Concrete-clause-many c =
    omega (arith, own_short c.args.body.now c.requires, ap texts_length c.in-Concrete.is, c.text_len-in-Concrete.ensures.value)

pub returns-in-Member-clause-many : goal.returns-in-Member-clause-many
returns-in-Member-clause-many c =
    omega (arith, own_short c.args.body.now c.requires, ap texts_length c.in-Member.is, c.further_len.ensures.value, further_length c.in-Member.columns.further)
