-- What proofs here take of those of other crates.
pub use Rattle.ctx_rows.proofs.CallLemmas.{flat_same, puts_from, seen_in, segment_puts, since_append, since_by}
pub use Rattle.ctx_rows.proofs.CallLemmas.{steps_after_are, steps_by, steps_in_all, steps_more_by, thread_put}
pub use Rattle.ctx_rows.proofs.HoldsLemmas.{IsReached, steps_more, true_false}
pub use Rattle.recorder.proofs.ArcRowLemmas.{arc_alike, arc_itself, arc_only, arc_total}
pub use Rattle.recorder.proofs.EnteredLemmas.{change_push}
pub use Rattle.recorder.proofs.LineLemmas.{place_alike, place_itself, place_only, place_total}
pub use Rattle.recorder.proofs.ListLemmas.{all_of, from_append, from_flat, from_map, in_filter, in_flat, in_left}
pub use Rattle.recorder.proofs.ListLemmas.{in_right, of_all}
