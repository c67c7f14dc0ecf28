mod Answer
mod Delayed
mod Diagrams
mod Listed
mod Marked
mod Numbered
mod Tested
mod Throughout
