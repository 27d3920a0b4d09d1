pub mod ComingLaws
pub mod GuideCompute
pub mod GuideCases
