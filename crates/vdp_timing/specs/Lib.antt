pub mod Bench
pub mod Frame
pub mod Interrupt
pub mod LineBegins
pub mod Timing
pub mod VCounter
