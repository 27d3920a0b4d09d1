pub mod StandingLaws
pub mod FitLaws
pub mod FallLaws
pub mod WalkArms
pub mod ForkLaws
