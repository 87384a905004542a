pub mod AnswerLines
pub mod PutLines
