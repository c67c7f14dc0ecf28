pub mod CallerLemmas
mod Edits
mod LineFronts
mod LineTokens
mod Mapped
mod WholeLines
