mod AnswerEnds
pub mod CallerLemmas
mod Cut
mod Decks
mod OneAnswer
mod Pieces
mod ReadAnswers
mod Readers
mod ReadingsLemmas
mod Reported
