pub mod CallerLemmas
mod Cuts
mod Equal
mod GateLemmas
mod NextChange
mod Results
mod Rising
mod Shown
mod Summaries
mod Waves
