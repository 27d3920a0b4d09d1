pub mod TwosLaws
pub mod PairsLaws
pub mod ValuedMarks
pub mod LeftLaws
pub mod FirstMarks
pub mod AgreeingLaws
pub mod ValueListsRead
pub mod MeetsLaws
