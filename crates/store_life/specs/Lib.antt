pub use Rattle.history_store.specs.StoreValue
pub use Rattle.history_store.specs.Answers
pub mod Life
pub mod Calls
pub mod Laws
