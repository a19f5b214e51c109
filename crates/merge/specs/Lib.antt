pub use Rattle.history_model.specs.InOrder
pub use Rattle.history_model.specs.History
pub use Rattle.history_model.specs.Lists
pub use Rattle.segment.specs.Standing
pub mod Merged
pub mod Private
