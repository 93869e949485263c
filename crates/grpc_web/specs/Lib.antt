-- What a refused request is answered with, and that what is written is read back.
pub mod FaultAnswers
pub mod Laws
