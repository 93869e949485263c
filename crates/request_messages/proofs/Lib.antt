pub mod FieldsBack
pub mod RequestsBack
pub mod ConfigBack
pub mod RequestsValid
pub mod RequestTexts
