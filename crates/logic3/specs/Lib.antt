pub mod Value
pub mod Gate
pub mod Summary
pub mod Wave
pub mod Rising
