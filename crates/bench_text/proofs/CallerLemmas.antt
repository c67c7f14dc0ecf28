-- What crates above may cite of the lemmas of this one.
pub use Rattle.bench_text.proofs.ReadNetlist.{IsNetlist-netlist_of}
