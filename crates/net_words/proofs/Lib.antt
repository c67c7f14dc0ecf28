mod AllFound
pub mod CallerLemmas
mod Passing
mod RealNets
mod Words
