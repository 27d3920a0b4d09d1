pub mod CodedLaws
pub mod CodedReads
pub mod SpotLaws
pub mod LinesStand
pub mod CodedPlaces
pub mod SamePartLaws
pub mod KnownLaws
pub mod PlanLaws
