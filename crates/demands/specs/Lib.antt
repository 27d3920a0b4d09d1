pub mod Formerly
pub mod Depth
pub mod Reuse
pub mod Wider
pub mod Completeness
pub mod GuideSaid
pub mod ValuesReported
pub mod Matching
