pub mod Packed
pub mod Row
