-- Definitions for private functions and proofs of this crate. No public clause cites them.
pub mod SampleFiles
