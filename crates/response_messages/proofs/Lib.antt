pub mod PairBack
pub mod ExecuteBack
pub mod AnswerBack
pub mod ResponseBack
pub mod SameResponses
pub mod ResponsesValid
pub mod ResponseTexts
