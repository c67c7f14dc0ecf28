pub mod Faults
pub mod Fold
pub mod Text
pub mod Written
