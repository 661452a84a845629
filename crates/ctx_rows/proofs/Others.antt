-- What proofs here take of those of other crates.
pub use Rattle.arc_costs.proofs.RowLemmas.{number_of_sum, sum_at-append, sum_at_none, sum_at_one, zero_number}
pub use Rattle.arc_costs.proofs.RowLemmas.{zero_replicate}
pub use Rattle.part_dump.proofs.LiveLemmas.{above_greatest, frames_within}
pub use Rattle.part_dump.proofs.StepLemmas.{events-push, is_not, length-push, own-other, own-push, same_stack}
pub use Rattle.part_dump.proofs.StepLemmas.{stack-push}
pub use Rattle.part_dump.proofs.WatchLemmas.{last-push, readied-append}
pub use Rattle.recorder.proofs.ArcRowLemmas.{arc_alike, count_is, either}
pub use Rattle.recorder.proofs.BookLemmas.{StartWithin-take, sorted_some, starts_grown, whole_sum}
pub use Rattle.recorder.proofs.BoundLemmas.{open_sum-below, pushes_one, sum_below, units, within_cut}
pub use Rattle.recorder.proofs.EnteredLemmas.{IsPushed, change_push, pushes_what}
pub use Rattle.recorder.proofs.LineLemmas.{kind_within, place_alike, same_number, some_kind, some_passes, then_equal}
pub use Rattle.recorder.proofs.ListLemmas.{all_of, from_append, from_flat, from_map, in_filter, in_flat, in_left}
pub use Rattle.recorder.proofs.ListLemmas.{in_right, of_all, to_filter}
pub use Rattle.recorder.proofs.RecordingLemmas.{same_thread}
pub use Rattle.shadow_stack.proofs.ChangeLemmas.{change-end, drop-end, rooted-some}
pub use Rattle.shadow_stack.proofs.FrameLemmas.{StartWithin-drop, StartWithin-restarted, after-rooted, covers_itself}
pub use Rattle.shadow_stack.proofs.TellingLemmas.{StartWithin-tail}
