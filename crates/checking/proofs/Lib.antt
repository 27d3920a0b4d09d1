pub mod EachLineLaws
pub mod OrderLaws
pub mod QuestionLaws
pub mod ClosingLaws
pub mod CheckLaws
