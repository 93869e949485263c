-- What the evaluation of expressions is stated by, beside the meaning of expressions.
pub mod ConditionLaws
pub mod Dated
pub mod Forms
pub mod Operands
pub mod Operations
