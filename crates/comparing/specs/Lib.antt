pub mod Coded
pub mod Stands
pub mod RuleAnswers
