pub mod Refusal16
pub mod Refusal17
pub mod Refusal18
pub mod Settled
