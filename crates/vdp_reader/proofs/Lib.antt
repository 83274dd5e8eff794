pub mod Bench
pub mod Calls
pub mod Cuts
pub mod Deliveries
pub mod Faults
pub mod Readers
pub mod Scripts
