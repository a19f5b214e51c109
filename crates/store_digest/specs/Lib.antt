pub use Rattle.history_store.specs.Queries
pub mod Digest
pub mod Private
pub mod Laws
