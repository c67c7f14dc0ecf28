pub mod Drawn
pub mod Likenesses
pub mod Lines
pub mod Noted
pub mod Remarks
pub mod Shows
pub mod Text
pub mod Unused
