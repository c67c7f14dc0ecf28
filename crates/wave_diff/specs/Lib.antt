pub use Rattle.logic3.specs.Value
pub use Rattle.logic3.specs.Wave
pub mod Ticks
pub mod Faults
pub mod Compared
pub mod Difference
pub mod Comparison
pub mod Text
