pub mod Ledger
pub mod Shelf
