pub mod Sctid
pub mod Time
pub mod Text
pub mod Row
pub mod Member
pub mod Key
pub mod Private
