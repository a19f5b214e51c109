pub mod Picking
pub mod Taking
pub mod Searching
pub mod Paging
