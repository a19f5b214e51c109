use Rattle.std.proofs.Common.{take}
use Rattle.history_store.specs.Private.{IsLatest, place_time}
use Rattle.history_store.proofs.latest.latest_of.Given as goal

-- of those so far
abbrev pub invariant-loop-place : goal.invariant-loop-place
invariant-loop-place l = IsLatest place_time l.latest (take l.place-index l.places)
