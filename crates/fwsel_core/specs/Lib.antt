pub mod Slot
pub mod Selection
pub mod Mode
pub mod Flags
pub mod Failure
pub use Rattle.record_core.specs.Field
pub use Rattle.record_core.specs.Nv
