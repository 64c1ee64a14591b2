pub mod Algorithms
pub mod Keyblocks
pub mod Parts
