-- Definitions for private functions and proofs, of this crate or of one above it. No public clause
-- cites them.
pub mod Reading
pub mod Damage
pub mod Keys
