pub use Rattle.netlist.specs.Netlist
pub mod Listed
pub mod Meant
pub mod Pattern
