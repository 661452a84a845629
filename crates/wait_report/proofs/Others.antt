-- What proofs here take of those of other crates.
pub use Rattle.arc_costs.proofs.EntryLemmas.{IsAt, at_position, insert_new, lookup_at}
pub use Rattle.arc_costs.proofs.FitLemmas.{fits_from_numbers}
pub use Rattle.arc_costs.proofs.KindLemmas.{by_kind_at, cost_is}
pub use Rattle.arc_costs.proofs.RiseLemmas.{Rises, in_risen, not_below_itself, one_list, risen_in, risen_rises}
pub use Rattle.arc_costs.proofs.RiseLemmas.{rises_from}
pub use Rattle.arc_costs.proofs.TreeLemmas.{element, value_of_place, value_there, within_place}
