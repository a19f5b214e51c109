pub use Rattle.caseless.specs.Caseless
pub use Rattle.unicode_normalization.specs.Decompose
pub use Rattle.unicode_normalization.specs.Lookups
pub use Rattle.rf2_values.specs.Row
pub use Rattle.history_model.specs.InOrder
pub use Rattle.history_model.specs.Queries
pub mod Words
pub mod Laws
