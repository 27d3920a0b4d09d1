pub mod BuildLaws
pub mod DifferLaws
pub mod TakeLaws
pub mod TakenHand
