pub mod DerivationRead
pub mod Derived
