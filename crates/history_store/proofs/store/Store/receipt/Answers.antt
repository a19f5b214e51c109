use Rattle.std.proofs.Common.{refl, subst}
use Rattle.history_model.specs.InOrder.{joined}
use Rattle.history_store.specs.Private.{IsReceiptOf}
use Rattle.history_store.proofs.BroughtRows.{receipt_of_rows}
use Rattle.history_store.proofs.Counted.{few_places}
use Rattle.history_store.proofs.store.Store.receipt.Goals as goal

pub receipt_of-requires : goal.receipt_of-requires
receipt_of-requires g c = few_places c.self.inside.directory c.places.result.now c.self.inside.index.lists c.self.invariant.0.kept c.places.ensures

pub returns-clause-found : goal.returns-clause-found
returns-clause-found g c = (
  rw (← c.self.view_is) c.if-self.false,
  receipt_of_rows c.args.self.now.history c.self.inside.index.lists c.args.number c.receipt_of.result (rw (← c.self.view_is) refl) c.requires.first c.requires.last c.self.invariant.0.kept.apart
      (subst (λ ps. IsReceiptOf c.args.number (joined ps) c.receipt_of.result) c.places.ensures c.receipt_of.ensures),
)
