-- What is accepted and how it is asked, the tables of a slot, and what the calls do.
pub mod Hashing
pub mod Accepted
pub mod Tables
pub mod Checking
pub mod Bodies
pub mod Slot
pub mod SlotNumbers
pub mod Room
