pub mod Spelled
pub mod Fitting
pub mod Jumps
pub mod Written
pub mod Reading
pub mod Adding
pub mod Noticed
