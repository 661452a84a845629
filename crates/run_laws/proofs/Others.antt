-- What proofs here, and those of laws of reports, take of those of other crates.
pub use Rattle.addr_rows.proofs.AddressMapLemmas.{address_code, address_names}
pub use Rattle.addr_rows.proofs.AlikeLemmas.{alike_root, code_back}
pub use Rattle.call_graph.proofs.GroupLemmas.{is_group}
pub use Rattle.call_graph.proofs.ReachLemmas.{leads_after, leads_from_same, same_back, same_from_leads}
pub use Rattle.ctx_rows.proofs.FoldedLemmas.{folded_are, folded_sums}
pub use Rattle.ctx_rows.proofs.HoldsLemmas.{IsReached, if_other, readied_more, steps_more}
pub use Rattle.ctx_rows.proofs.ShareLemmas.{HaveSums}
pub use Rattle.ctx_rows.proofs.TrackedLemmas.{all_append}
pub use Rattle.cycles.proofs.CountLemmas.{arcs_within}
pub use Rattle.event_costs.proofs.RunLemmas.{IsTrace-same}
pub use Rattle.guest_sched.proofs.MoveLemmas.{next_is, step_is, IsCall, IsInstruction}
pub use Rattle.guest_sched.proofs.OrderLemmas.{Holds, holds_first, holds_next}
pub use Rattle.once_each.proofs.SumLemmas.{sum_by-each, sum_by-same}
pub use Rattle.part_dump.proofs.CutLemmas.{cuts_together}
pub use Rattle.part_dump.proofs.StepLemmas.{events-push, own-append, own-other, own-push, stack-push}
pub use Rattle.profile_run.proofs.MachineLemmas.{goes_is, of_machine}
pub use Rattle.profile_run.proofs.TraceLemmas.{going-end, going-over, going-step}
pub use Rattle.reads_back.proofs.JoinedLemmas.{longer_same, own_texts}
pub use Rattle.recorder.proofs.ListLemmas.{all_of, from_map, in_filter, in_left, in_right, of_all}
pub use Rattle.recorder.proofs.RowSumLemmas.{all_sum_up, whole_arcs, whole_lines}
