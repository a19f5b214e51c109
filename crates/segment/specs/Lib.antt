pub use Rattle.history_model.specs.InOrder
pub use Rattle.history_model.specs.History
pub mod Records
pub mod Standing
pub mod Private
