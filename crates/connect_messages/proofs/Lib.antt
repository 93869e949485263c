pub mod ExecuteBack
pub mod AnalyzeBack
pub mod RequestBack
pub mod PlansAgree
pub mod SameRequests
pub mod AskedValid
