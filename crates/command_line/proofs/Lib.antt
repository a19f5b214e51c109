mod Commands
mod Merged
pub mod OnlyRead
pub mod Told
pub mod Digested
mod Comparing
mod Prepared
