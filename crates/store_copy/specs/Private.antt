-- Definitions for private functions and proofs. No public clause cites them.
pub mod Writing
