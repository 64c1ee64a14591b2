pub mod Lifted
pub mod Signed
