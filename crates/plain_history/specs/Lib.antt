pub use Rattle.history_model.specs.InOrder
pub use Rattle.history_model.specs.History
pub use Rattle.history_model.specs.Brought
pub use Rattle.history_model.specs.Queries
pub use Rattle.history_model.specs.Hierarchy
pub use Rattle.import_check.specs.Known
pub mod Private
