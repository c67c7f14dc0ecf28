pub mod Schedule
pub mod ScheduleFaults
pub use Rattle.design.specs.Circuit
