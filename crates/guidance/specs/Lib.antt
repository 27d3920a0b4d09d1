pub mod Guides
pub mod Guided
