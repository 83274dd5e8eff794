pub mod Bench
pub mod Deliver
pub mod End
pub mod Reader
pub mod Stage
pub mod Take
pub mod Whole
