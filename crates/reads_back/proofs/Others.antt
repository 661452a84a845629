-- What proofs here take of those of other crates.
pub use Rattle.cg_read.proofs.CostLemmas.{padded_whole}
pub use Rattle.cg_read.proofs.DraftLemmas.{each_weaker}
pub use Rattle.cg_read.proofs.MergeLemmas.{functions_decide}
pub use Rattle.cg_read.proofs.ProfileLemmas.{apart_names, each_at}
