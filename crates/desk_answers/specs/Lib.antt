pub mod AnswerLines
pub mod Laws
