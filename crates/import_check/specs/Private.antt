-- Definitions for private functions and proofs, of this crate or of one above it. No public clause
-- cites them.
pub mod Parsed
pub mod Sweep
pub mod Contradictions
