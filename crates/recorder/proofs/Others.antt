-- What proofs here take of those of other crates.
pub use Rattle.arc_costs.proofs.ArcLemmas.{arc_keys_more, arcs_keys, cleared_keys, none_stand, same_arc_laws}
pub use Rattle.arc_costs.proofs.KindLemmas.{by_kind_all, by_kind_at, cost_is}
pub use Rattle.arc_costs.proofs.RowLemmas.{number_of_sum, sum_at-append, sum_at_one, zero_replicate}
pub use Rattle.shadow_stack.proofs.ChainLemmas.{ChangesChainOnly-refl, leaves_others, links-none}
pub use Rattle.shadow_stack.proofs.ChangeLemmas.{IsEnd, change-end, change-rooted, drop-end, end-le, rooted-some}
pub use Rattle.shadow_stack.proofs.FrameLemmas.{StartWithin-after, StartWithin-grown, StartWithin-restarted}
pub use Rattle.shadow_stack.proofs.FrameLemmas.{covers_itself, stack-frames_after}
pub use Rattle.shadow_stack.proofs.StayLemmas.{Stays, none_gone, none_pushed, nothing_told, same_frames}
