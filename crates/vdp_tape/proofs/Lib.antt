pub mod Demand
pub mod Numbers
pub mod Records
pub mod Sequence
pub mod Steps
pub mod Tape
pub mod Top
