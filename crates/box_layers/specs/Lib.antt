pub mod Cells
pub mod Keys
pub mod Bound
pub mod Pairs
pub mod Looking
pub mod Certificates
pub mod Layers
