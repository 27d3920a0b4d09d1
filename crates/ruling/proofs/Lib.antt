pub mod RuleLaws
pub mod ReadingRuleLaws
pub mod BranchRuleLaws
