pub mod Bench
pub mod Decided
pub mod Frame
pub mod Table
