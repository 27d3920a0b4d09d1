pub mod GuideHeld
pub mod GuideCalled
