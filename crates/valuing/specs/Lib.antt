pub mod Valuing
pub mod Meets
