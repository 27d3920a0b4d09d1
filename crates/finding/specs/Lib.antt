pub mod Places
pub mod LinesHere
pub mod TablesHere
pub mod ValueLines
pub mod Branches
pub mod PlansHeld
pub mod ReadHere
