use Rattle.std.proofs.Common.{◌≡◌, ℕ, ◌<◌, None, slice_index_or}
use Rattle.guest_load.proofs.pages.run_len.Given as goal

abbrev pub invariant-pages : goal.invariant-pages
invariant-pages l = (k : ℕ) → k < l.i → slice_index_or l.pages k None ≡ slice_index_or l.pages 0 None
