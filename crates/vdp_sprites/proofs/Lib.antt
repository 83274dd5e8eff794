pub mod Columns
pub mod Walked
pub mod Painting
pub mod Inside
