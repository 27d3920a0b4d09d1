pub mod BitLaws
pub mod RuleNumbers
pub mod MaskLaws
pub mod ByteLaws
pub mod ListLaws
pub mod ValueReaderLaws
pub mod LineReaderLaws
