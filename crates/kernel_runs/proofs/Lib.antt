pub mod CallerLemmas
mod Causes
mod Checks
mod Completed
mod ConesShown
mod DiffNames
mod Diffs
mod Drains
mod Isolated
mod Numbers
mod Others
mod Passes
mod Reports
mod Simulated
mod Streamed
mod Streams
mod Twins
