pub mod Folds
pub mod Levels
pub mod RelationBack
pub mod SameRelations
pub mod Measured
pub mod RelationValid
pub mod RelationTexts
