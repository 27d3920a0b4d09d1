pub mod Progress
pub mod Ends
