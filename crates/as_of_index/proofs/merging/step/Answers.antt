use Rattle.std.proofs.Common.{ap, arith}
use Rattle.std.proofs.lemmas.Option.{slice_get_within}
use Rattle.list_lemmas.proofs.Parts.{one_longer}
use Rattle.as_of_index.specs.declared.merging.TakenCount.{TakenCount}
use Rattle.as_of_index.proofs.Turns.{first_taken, second_taken}
use Rattle.as_of_index.proofs.merging.step.Goals as goal

pub returns-then-is_first_next-clause-merged : goal.returns-then-is_first_next-clause-merged
returns-then-is_first_next-clause-merged g c = first_taken g.T.Posting.kind g.met.T.Posting.same_rank c.args.numbers.now c.args.first.now c.args.second.now c.args.taken.now c.take_first.new.taken c.args.out.now.items c.take_first.new.out.items
    c.requires.first c.requires.second c.requires.merged (c.is_first_next.ensures.first c.if-is_first_next.true) c.take_first.ensures.taken c.take_first.ensures.pushed

pub returns-then-is_first_next-clause-left : goal.returns-then-is_first_next-clause-left
returns-then-is_first_next-clause-left g c =
    let next = c.is_first_next.ensures.first c.if-is_first_next.true in
    let within = slice_get_within c.args.first.now c.args.taken.now.first next.x next.there in
    let first = ap (λ (t : TakenCount). t.first) c.take_first.ensures.taken in
    let second = ap (λ (t : TakenCount). t.second) c.take_first.ensures.taken in
    omega (arith, within, first, second)

pub returns-then-is_first_next-clause-room : goal.returns-then-is_first_next-clause-room
returns-then-is_first_next-clause-room g c =
    let next = c.is_first_next.ensures.first c.if-is_first_next.true in
    let within = slice_get_within c.args.first.now c.args.taken.now.first next.x next.there in
    let first = ap (λ (t : TakenCount). t.first) c.take_first.ensures.taken in
    let second = ap (λ (t : TakenCount). t.second) c.take_first.ensures.taken in
    let longer = one_longer _ _ _ (c.take_first.ensures.pushed next.x next.there) in
    let room = c.take_first.ensures.room in
    let was = c.requires.room in
    omega (arith, within, first, second, longer, room, was)

pub returns-else-is_first_next-clause-merged : goal.returns-else-is_first_next-clause-merged
returns-else-is_first_next-clause-merged g c = second_taken g.T.Posting.kind g.met.T.Posting.same_rank c.args.numbers.now c.args.first.now c.args.second.now c.args.taken.now c.take_second.new.taken c.args.out.now.items c.take_second.new.out.items
    c.requires.first c.requires.second c.requires.merged (c.is_first_next.ensures.second c.if-is_first_next.false c.requires.left) c.take_second.ensures.taken c.take_second.ensures.pushed

pub returns-else-is_first_next-clause-left : goal.returns-else-is_first_next-clause-left
returns-else-is_first_next-clause-left g c =
    let next = c.is_first_next.ensures.second c.if-is_first_next.false c.requires.left in
    let within = slice_get_within c.args.second.now c.args.taken.now.second next.x next.there in
    let first = ap (λ (t : TakenCount). t.first) c.take_second.ensures.taken in
    let second = ap (λ (t : TakenCount). t.second) c.take_second.ensures.taken in
    omega (arith, within, first, second)

pub returns-else-is_first_next-clause-room : goal.returns-else-is_first_next-clause-room
returns-else-is_first_next-clause-room g c =
    let next = c.is_first_next.ensures.second c.if-is_first_next.false c.requires.left in
    let within = slice_get_within c.args.second.now c.args.taken.now.second next.x next.there in
    let first = ap (λ (t : TakenCount). t.first) c.take_second.ensures.taken in
    let second = ap (λ (t : TakenCount). t.second) c.take_second.ensures.taken in
    let longer = one_longer _ _ _ (c.take_second.ensures.pushed next.x next.there) in
    let room = c.take_second.ensures.room in
    let was = c.requires.room in
    omega (arith, within, first, second, longer, room, was)
