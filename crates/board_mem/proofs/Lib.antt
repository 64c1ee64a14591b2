pub mod DiskLeaves
pub mod Leaves
pub mod Plans
