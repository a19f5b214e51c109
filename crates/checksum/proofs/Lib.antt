pub mod Registers
pub mod Entries
pub mod ChecksumLaws
