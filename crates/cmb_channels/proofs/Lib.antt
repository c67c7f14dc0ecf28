mod AllLogs
mod Appended
pub mod CallerLemmas
mod Counts
mod FedPins
mod Most
mod OneLog
mod Places
mod Sources
mod WaitingLemmas
