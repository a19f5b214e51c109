pub use Rattle.import_check.specs.Release
pub mod Sample
pub mod Private
