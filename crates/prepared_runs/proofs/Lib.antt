mod Answer
pub mod CallerLemmas
mod DeckText
mod Endings
mod Ends
mod First
mod Found
mod Lines
mod MeantNets
mod Reporting
mod Rows
mod Rules
mod Runs
mod ShownNets
mod Signals
mod Viewed
mod Words
