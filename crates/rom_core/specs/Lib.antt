pub mod Decoded
pub mod Faults
pub mod Gbb
pub mod Map
pub mod MapFits
pub mod Reading
