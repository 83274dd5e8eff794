pub mod Decided
pub mod Writes
