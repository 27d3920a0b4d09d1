pub mod SensedReadLaws
pub mod LookAheadLaws
pub mod GuideTestLaws
pub mod TurnLaws
pub mod GuideHeldLaws
pub mod GuideStartLaws
pub mod GuideRowLaws
