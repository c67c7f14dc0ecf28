pub mod CallerLemmas
mod FirstDifference
mod Found
