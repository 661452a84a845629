-- What proofs here take of those of other crates.
pub use Rattle.cache_lru.proofs.HistoryLemmas.{event_cost-ones}
pub use Rattle.call_graph.proofs.ReachLemmas.{leads_after, leads_from_same, same_back, same_by, same_from_leads}
pub use Rattle.guest_sched.proofs.OrderLemmas.{Holds, holds_first, holds_next}
pub use Rattle.recorder.proofs.ArcRowLemmas.{arc_alike, arc_itself}
pub use Rattle.recorder.proofs.LineLemmas.{place_alike, place_itself}
pub use Rattle.recorder.proofs.RecordingLemmas.{same_thread}
pub use Rattle.shadow_stack.proofs.ChangeLemmas.{change-end}
pub use Rattle.sym_map.proofs.Members.{Contains-cons, Contains-first, Contains-from_map, Contains-map, first_or_rest}
