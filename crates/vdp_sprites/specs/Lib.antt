pub mod Behind
pub mod Column
pub mod Kept
pub mod Shown
pub mod Sprite
pub mod SpriteLine
pub mod Used
pub mod Walk
