use Rattle.std.proofs.Common.{◌≡◌, ℕ, ◌/◌, None, Some, slice_index_or}
use Rattle.std.specs.Prelude.{◌&&◌, bit_or, nat_le, nat_lt, unwrap_or, if◌then◌else◌}
use Rattle.guest_load.proofs.pages.permit.Given as goal

abbrev pub invariant-pages : goal.invariant-pages
invariant-pages l = (p : ℕ) → slice_index_or l.table p None
    ≡ (if nat_le (l.start / 4096) p && nat_lt p l.page then Some
    (bit_or (unwrap_or (slice_index_or l.initial.table p None) 0) l.permission) else slice_index_or l.initial.table p
    None)
