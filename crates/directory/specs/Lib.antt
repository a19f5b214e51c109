pub mod Places
pub mod Listings
pub mod Content
pub mod Fit
pub mod Additions
pub mod Private
pub use Rattle.blocks.specs.Extents
