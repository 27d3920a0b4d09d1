pub mod Narrow
pub mod Put
pub mod Sizes
