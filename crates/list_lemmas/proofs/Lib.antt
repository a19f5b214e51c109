pub mod Each
pub mod Parts
pub mod Kept
pub mod Tests
