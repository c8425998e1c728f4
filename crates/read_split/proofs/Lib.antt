pub mod TextJudged
pub mod BodyAnswers
pub mod BodyEnds
