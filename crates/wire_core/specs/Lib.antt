pub mod Crc8
pub mod Crc32
pub mod Fields
pub mod Register
pub mod FirstFault
pub use Rattle.byteorder.specs.Endian
