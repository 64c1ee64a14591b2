pub mod Padding
pub mod Signed
pub mod SignedKeyblock
