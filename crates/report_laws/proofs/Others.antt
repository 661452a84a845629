-- What proofs here take of those of other crates.
pub use Rattle.addr_rows.proofs.AddressMapLemmas.{address_place, address_entry}
pub use Rattle.addr_rows.proofs.FoldLemmas.{map_map}
pub use Rattle.arc_costs.proofs.RiseLemmas.{Rises, in-map, one_list, risen_rises, rises_from}
pub use Rattle.arc_costs.proofs.RowLemmas.{zero_replicate}
pub use Rattle.cg_read.proofs.DraftLemmas.{each_weaker, functions_eq, texts_are}
pub use Rattle.once_each.proofs.ExchangeLemmas.{exchange, sum_where}
pub use Rattle.once_each.proofs.MemberLemmas.{each_at, each_from, le-sum, sum-some}
pub use Rattle.once_each.proofs.Others.{Contains-cons, Contains-first, first_or_rest}
pub use Rattle.once_each.proofs.PartLemmas.{cost_of}
pub use Rattle.once_each.proofs.SeenLemmas.{chains}
pub use Rattle.once_each.proofs.StackLemmas.{Below, IsChain, IsClosed, count-cons, number_of, on_arc}
pub use Rattle.once_each.proofs.SumLemmas.{sum_by-each, sum_by-filter, sum_by-flat_map, sum_by-map, sum_by-none, sum_by-plus, sum_by-same}
pub use Rattle.once_each.proofs.WrittenLemmas.{run_files}
pub use Rattle.reads_back.proofs.AllPartsLemmas.{IsPartText, ReadAs, all_joined_unnamed, read_joined}
pub use Rattle.reads_back.proofs.CostLemmas.{shown_length, shown_some}
pub use Rattle.reads_back.proofs.EntryLemmas.{CanWrite, Standing, calls_of, selfs_of}
pub use Rattle.reads_back.proofs.HeadingLemmas.{after_heading_at, heading_at, heading_clear, heading_read, heading_same, literal, says, says_object, says_totals}
pub use Rattle.reads_back.proofs.JoinedLemmas.{joined_any}
pub use Rattle.reads_back.proofs.LineLemmas.{AreClear, all_clear, history_is, lines_of_marks, split_joined, text_is, texts_of}
pub use Rattle.reads_back.proofs.OrderLemmas.{first_less, flat_map_alike, flat_map_mapped, flat_map_twice}
pub use Rattle.reads_back.proofs.ShapeLemmas.{Spells, costs_after, costs_read, digit_begins, digit_no_blank, digit_no_place, file_line, front, place_decimal, spells_callee, spells_calls, spells_costs, spells_file, spells_function}
pub use Rattle.reads_back.proofs.TextLemmas.{IsText, is_seen, stripped_kept, text-append}
pub use Rattle.recorder.proofs.ArcRowLemmas.{arc_alike, arc_itself, arc_only, arc_total}
pub use Rattle.recorder.proofs.LineLemmas.{place_alike, place_itself, place_only, place_total, then_equal}
pub use Rattle.recorder.proofs.ListLemmas.{all_of, from_append, from_flat, from_map, in_filter, of_all}
pub use Rattle.run_laws.proofs.CostLemmas.{group_is, groups_are, inclusive_is, none_over, pair_is}
pub use Rattle.run_laws.proofs.EventLemmas.{have_stacks, tops}
pub use Rattle.run_laws.proofs.Others.{all_append, arcs_within, is_group, leads_after, leads_from_same, same_back, same_from_leads, cuts_together}
pub use Rattle.run_laws.proofs.OwnPartLemmas.{AreApart, IsHeld, IsOwn, all_held, all_loaded, joined_is, names_differ, one_profile, read_is_run, refused_is_own, stop_is, stops_own}
pub use Rattle.run_laws.proofs.PartLemmas.{are_parts, command_is, rows_same}
pub use Rattle.run_laws.proofs.PieceLemmas.{on}
pub use Rattle.run_laws.proofs.SameRunLemmas.{makes_same, parts_same, profile_same, lows, segments_same}
pub use Rattle.run_laws.proofs.SameStackLemmas.{AreLow, IsLowSeen, IsLowStep, at_same, low_seen, rows_same as rows_told_same, change_same, cuts_same}
