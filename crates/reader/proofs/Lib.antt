pub mod WholeLaws
pub mod LentArrays
