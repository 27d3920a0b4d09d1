pub mod TellingLaws
pub mod KeepingLaws
pub mod MarkedLaws
pub mod WalkedLaws
pub mod ReleasingLaws
