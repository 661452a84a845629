-- What proofs here take of those of other crates.
pub use Rattle.command_steps.proofs.AnswerLemmas.{IsRefusal, before_line, calm_before, line_is_written, never_wanting, stays}
pub use Rattle.command_steps.proofs.ReportLemmas.{ReadsFiles-wanting, texts_within}
pub use Rattle.profile_files.proofs.ReadingLemmas.{IsReading-wanting, IsReading-within, events_read}
pub use Rattle.profile_run.proofs.RefusalLemmas.{more_taken, rose_from}
pub use Rattle.reads_back.proofs.AllPartsLemmas.{IsPartText, each_text, events_agree}
pub use Rattle.report_laws.proofs.AddrOwnLemmas.{joined_stands, read_stands, texts_again}
pub use Rattle.report_laws.proofs.ExactLemmas.{same_parts}
pub use Rattle.run_laws.proofs.CostLemmas.{none_over, of_trace as profile_of_run, total_is}
pub use Rattle.run_laws.proofs.EventLemmas.{have_stacks, orderly, small_numbers}
pub use Rattle.run_laws.proofs.OwnPartLemmas.{joined_is, read_is_run, refused_is_own}
pub use Rattle.run_watches.proofs.KindLemmas.{addresses_are, contexts_are, nobody_is, waits_are}
