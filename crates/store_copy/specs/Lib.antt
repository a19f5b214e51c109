pub mod Copying
pub mod Answers
pub mod Laws
pub mod Private
pub use Rattle.store_image.specs.OnDisk
