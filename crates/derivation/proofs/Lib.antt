pub mod DerivationLaws
pub mod DerivedLaws
pub mod ByHand
