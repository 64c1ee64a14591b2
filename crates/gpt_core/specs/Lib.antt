-- The definitions of this crate.
pub mod Copies
pub mod Writes
pub mod Reads
pub mod Entries
pub mod Format
pub mod Heads
pub mod Tables
pub mod Attributes
pub mod Placing
pub mod Room
pub mod Commits
