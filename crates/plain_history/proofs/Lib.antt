pub mod Placing
pub mod Listed
pub mod Accepting
pub mod LatestDays
pub mod Looking
pub mod Worded
