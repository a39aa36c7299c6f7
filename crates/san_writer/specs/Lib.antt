pub mod CodeLetters
