pub mod CodeAnswers
