pub mod AddLaws
pub mod CitedLaws
pub mod SchemeFalls
pub mod NarrowLaws
pub mod SchemeArms
pub mod PassLaws
