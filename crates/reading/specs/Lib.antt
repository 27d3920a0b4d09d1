pub mod Noted
pub mod Listed
pub mod Planned
pub mod Requested
pub mod Ordered
pub mod Tables
