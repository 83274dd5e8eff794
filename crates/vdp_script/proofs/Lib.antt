pub mod Bench
pub mod Forms
pub mod Items
pub mod Judges
pub mod Pending
pub mod Runs
pub mod Whole
pub mod Writes
