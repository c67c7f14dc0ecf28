-- What crates above may cite of the lemmas of this one.
pub use Rattle.program_io.proofs.AnswerEnds.{AnswerEndsBy-weaker, GoesOut-weaker}
pub use Rattle.program_io.proofs.Cut.{cut, cut_picks, cut_source, diagram_of_source-cut, dump_of_source-cut, limited-cut, netlist_of-cut, pair_of-cut, run_of_source-cut, simulated-cut, shown_trace_of_source-cut, stimuli_of_drives-cut, twins_of-cut, why_of_source-cut}
pub use Rattle.program_io.proofs.ReadAnswers.{IsAnswer-read}
pub use Rattle.program_io.proofs.Decks.{deck_answer-cut}
