pub mod CallerLemmas
mod EventCount
mod Existing
mod Picks
