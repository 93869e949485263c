pub mod Shorts
pub mod Messages
pub mod Numbers
pub mod MemberBack
pub mod MemberAgrees
pub mod OverInputs
pub mod MemberValid
