use Rattle.disk_model.proofs.memory.MemDisk.reserve.Goals as goal

pub returns-clause-keeps : goal.returns-clause-keeps
returns-clause-keeps c =
    λ end calls bytes room. (c.make_room.ensures.keeps end room.0, c.make_room-2.ensures.keeps calls bytes room.1)
