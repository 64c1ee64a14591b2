mod Checks
pub mod Digits
pub mod HookRows
pub mod Tables
mod Written
