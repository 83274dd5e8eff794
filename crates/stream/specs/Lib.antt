pub mod Command
pub mod Digest
pub mod Generator
pub mod Line
pub mod Op
pub mod Outcome
