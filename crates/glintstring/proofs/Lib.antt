pub mod SettledAtHand
pub mod JudgingLaws
pub mod IndexedLaws
pub mod MissingLaws
pub mod ShowingLaws
pub mod PackingLaws
pub mod CheckCallLaws
pub mod DeriveLaws
