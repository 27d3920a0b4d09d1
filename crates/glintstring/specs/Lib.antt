pub mod Missing
pub mod LentState
pub mod ShownPart
pub mod Packing
pub mod CheckCalls
