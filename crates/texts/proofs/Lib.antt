pub mod CallerLemmas
mod Cuts
mod Digits
mod FirstWord
mod FoldLemmas
mod GoingOut
mod Prefixes
mod ReadBack
