pub mod Orders
pub mod Sources
pub mod Words
