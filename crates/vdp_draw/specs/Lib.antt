pub mod Dot
pub mod Inside
pub mod Painted
pub mod Pattern
pub mod Tabulate
pub mod Width
