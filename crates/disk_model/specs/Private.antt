-- Definitions for private functions and proofs, of this crate or of one above it. No public clause
-- cites them.
pub mod Disk
pub mod Entry
pub mod Faults
pub mod Put
pub mod Replay
pub mod Replayed
