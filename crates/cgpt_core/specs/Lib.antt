-- The definitions of this crate.
pub mod Values
pub mod Words
pub mod Guids
pub mod Text
pub mod Faults
pub mod Adding
pub mod Ranking
pub mod Plans
pub mod Tables
pub mod TypeLaw
