pub use Rattle.history_model.specs.Lists
pub use Rattle.as_of_index.specs.Places
pub mod Private
