-- What crates above may cite of the lemmas of this one.
pub use Rattle.vcd_dump.proofs.Between.{same_from}
pub use Rattle.vcd_dump.proofs.Few.{few_below}
pub use Rattle.vcd_dump.proofs.ShownValues.{shown_value-dump_text}
pub use Rattle.vcd_dump.proofs.Signals.{span_text-more}
pub use Rattle.vcd_dump.proofs.Streams.{with_parts-none, with_parts-more, with_parts-can, IsSpan-can, stream_at-begun, stream_at-span, stream_at-can, stream_at-spanned}
pub use Rattle.vcd_dump.proofs.Wholes.{dump_text-nets}
