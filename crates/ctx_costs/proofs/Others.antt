-- What proofs here take of those of other crates.
pub use Rattle.arc_costs.proofs.ArcLemmas.{cleared_keys, none_stand, same_arc_laws}
pub use Rattle.ctx_rows.proofs.FrameLemmas.{cut_again, kept_stack, numbered_kept, numbered_more, numbered_restarted}
pub use Rattle.ctx_rows.proofs.FrameLemmas.{numbered_top, read_there, starts_with, with_context_more, within_list}
pub use Rattle.ctx_rows.proofs.NamedLemmas.{contains_from_in, in_from_contains}
pub use Rattle.contexts.proofs.NumberLemmas.{at_apart, context_alike, context_itself, none_place, number_is, place}
pub use Rattle.contexts.proofs.NumberLemmas.{swapped, true_false}
pub use Rattle.recorder.proofs.ArcRowLemmas.{arc_alike, arc_itself}
pub use Rattle.recorder.proofs.BookLemmas.{StartWithin-take, can_tell_cut, line_more, sorted_some, starts_grown}
pub use Rattle.recorder.proofs.BookLemmas.{whole_sum}
pub use Rattle.recorder.proofs.EnteredLemmas.{IsPushed, pushes_what}
pub use Rattle.recorder.proofs.LineLemmas.{place_alike, place_itself, same_number}
pub use Rattle.recorder.proofs.ListLemmas.{from_map, in_filter, none_of}
pub use Rattle.recorder.proofs.RecordingLemmas.{any-map}
pub use Rattle.recorder.proofs.SumLemmas.{AreKeyed-drop, AreKeyed-take, closings_calls, closings_costs}
pub use Rattle.recorder.proofs.SumLemmas.{closings_pushes, open_sum-restarted, open_sum-split}
pub use Rattle.recorder.proofs.SumLemmas.{open_sum-with, own_cost, pushing_calls, pushing_costs}
pub use Rattle.recorder.proofs.TellingLemmas.{at_most_one, more_told, none_told, none_used, row_told}
pub use Rattle.shadow_stack.proofs.ChainLemmas.{true_of_or}
pub use Rattle.shadow_stack.proofs.ChangeLemmas.{change-end, end-le}
pub use Rattle.shadow_stack.proofs.StayLemmas.{none_gone}
