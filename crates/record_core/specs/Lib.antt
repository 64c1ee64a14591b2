pub mod Field
pub mod Nv
pub mod NvLayouts
pub mod Space
pub mod KernelLayouts
pub use Rattle.wire_core.specs.Crc8
pub use Rattle.wire_core.specs.Fields
