-- Laws that the functions' proofs cite.
pub mod NumberLaws
pub mod CutLaws
pub mod StepLaws
mod TimeLaws
pub mod AnswerLaws
pub mod WordLaws
