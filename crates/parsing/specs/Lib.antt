pub mod Bits
pub mod Faults
pub mod RuleKinds
pub mod Read
pub mod Entries
pub mod Masks
