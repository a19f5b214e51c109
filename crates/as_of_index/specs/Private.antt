-- Definitions for private functions and proofs, of this crate or of one above it. No public clause
-- cites them.
pub mod Search
pub mod Current
pub mod Chosen
pub mod Postings
pub mod Merging
pub mod Numbers
pub mod Walk
pub mod KeyOrder
pub mod Once
pub mod Dates
