-- A run of lines, as calls on the store.
use Rattle.std.proofs.Common.{List, [], ◌∷◌, map, ap, subst, sym}
use Rattle.disk_model.specs.View.{DiskView}
use Rattle.store_life.specs.Life.{Called, IsLife}
use Rattle.line_server.specs.Sources.{SourceView}
use Rattle.line_server.specs.Replies.{Server}
use Rattle.line_server.specs.Turns.{Turn, Run}

module _ {D : Type 0} (view : D → DiskView) (source : SourceView) where
  pub run_called : (old new : Server D) (turns : List Turn) → Run source view old turns new
      → IsLife view old.store (map (λ (turn : Turn). Called turn.call) turns) new.store
  run_called old new [] run = ap (λ (d : Server D). d.store) run
  run_called old new (turn ∷ turns) run = (run.0.store, run.1.call, run_called run.0 new turns run.2)

  pub run_honesty : (old new : Server D) (turns : List Turn) → Run source view old turns new → (view old.store.disk).is_honest → (view new.store.disk).is_honest
  run_honesty old new [] run up = subst (λ (d : Server D). (view d.store.disk).is_honest) (sym run) up
  run_honesty old new (turn ∷ turns) run up = run_honesty run.0 new turns run.2 (run.1.call.honesty.0 up)
