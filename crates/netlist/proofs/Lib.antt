mod AllPins
mod Among
mod Behind
pub mod CallerLemmas
mod Distinct
mod Gates
mod Joined
mod Marks
mod Named
mod NewName
mod Pairs
mod Picked
mod Places
mod Rising
mod Sums
mod Times
mod WalkEnds
mod Walking
