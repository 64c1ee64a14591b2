pub mod Checks
pub mod Division
pub mod HalfBytes
pub mod ShiftRegister
pub mod FirstFault
pub mod Prefixes
pub mod Registers
pub mod Writing
