pub mod Bits
pub mod Checks
pub mod Fields
pub mod Records
pub mod SpaceLemmas
