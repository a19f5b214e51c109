pub use Rattle.rf2_values.specs.Row
pub use Rattle.history_model.specs.Queries
pub mod Differences
pub mod Reading
pub mod Private
