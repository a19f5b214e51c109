use Rattle.std.proofs.Common.{◌≡◌, map, take}
use Rattle.std.specs.Prelude.{flat_map}
use Rattle.history_model.specs.Queries.{with_others, members_about}
use Rattle.plain_history.proofs.membership.called.Given as goal

-- what the descriptions so far give
abbrev pub invariant-loop-description : goal.invariant-loop-description
invariant-loop-description l = map (λ row. row.now) l.found.items ≡ flat_map (λ d. with_others d (members_about l.refset d.id l.date l.rows)) (take l.description-index (map (λ row. row.now) l.description-items))
