pub mod Bools
pub mod Facts
pub mod Iterate
pub mod Laws
pub mod Same
