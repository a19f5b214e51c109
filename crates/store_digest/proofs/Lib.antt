pub mod Composed
pub mod Remaining
pub mod Digested
pub mod Texts
pub mod Added
