pub mod Checked
pub mod Asked
