-- What a kernel is held to, the tables of its keyblock and preamble, what the rooms have, and what the calls do.
pub mod Rules
pub mod KernelTables
pub mod Heads
pub mod HeadChecks
pub mod Rooms
pub mod KernelBodies
