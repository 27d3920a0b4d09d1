pub mod ActingMarks
pub mod ValueApart
pub mod ValueSweeps
pub mod RunLaws
pub mod EffectLaws
