pub mod Telling
pub mod Releasing
