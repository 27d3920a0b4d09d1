pub mod Readings
pub mod Branched
