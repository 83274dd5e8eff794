pub mod Inside
pub mod Painted
