-- What proofs here take of those of other crates.
pub use Rattle.event_costs.proofs.RunLemmas.{IsTrace-same, Run-push}
pub use Rattle.guest_sched.proofs.MoveLemmas.{next_end, next_is}
pub use Rattle.guest_sched.proofs.OrderLemmas.{Holds, goes_where, holds_next, holds_reached}
pub use Rattle.outside.proofs.JournalLemmas.{tells_nothing_more, tells_then}
pub use Rattle.part_dump.proofs.CutLemmas.{cuts_push, cuts_together}
pub use Rattle.part_dump.proofs.LiveLemmas.{above_greatest, frames_within, live_push}
pub use Rattle.part_dump.proofs.StepLemmas.{events-push, is_not, length-push, own-append, own-other, own-push}
pub use Rattle.part_dump.proofs.StepLemmas.{same_stack, seen-push, stack-push}
pub use Rattle.part_dump.proofs.WatchLemmas.{last-push, readied-append, readied-from, steps-append, watched_more}
pub use Rattle.recorder.proofs.AllRowLemmas.{AreWhole, are_whole, rows_are}
pub use Rattle.recorder.proofs.ArcRowLemmas.{arc_only, arc_total, count_is}
pub use Rattle.recorder.proofs.BoundLemmas.{pushes_one, units, within_started}
pub use Rattle.recorder.proofs.KnownLemmas.{AreKnownIn, IsKnownKey, pushed_known, stack_known}
pub use Rattle.recorder.proofs.ListLemmas.{all_of, from_append, from_flat, from_map, in_filter, in_flat, in_left}
pub use Rattle.recorder.proofs.ListLemmas.{in_right, none_of, some_of}
pub use Rattle.recorder.proofs.RecordingLemmas.{ledger_unknown, same_thread}
pub use Rattle.recorder.proofs.StandingLemmas.{if_one, stands_cut, stands_started}
pub use Rattle.recorder.proofs.ThreadBounds.{within_later}
