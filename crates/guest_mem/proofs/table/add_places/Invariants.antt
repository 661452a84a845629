use Rattle.std.proofs.Common.{◌≡◌, ℕ, ◌-◌, ◌≤◌, vec_len}
use Rattle.guest_mem.specs.inner.Table.{at_place}
use Rattle.guest_mem.proofs.table.add_places.Given as goal

-- no place has changed, and none is lost
abbrev pub invariant-loop-places : goal.invariant-loop-places
invariant-loop-places g l = record {
  kept : (q : ℕ) → at_place l.places.items q ≡ at_place l.initial.places.items q;
  longer : vec_len l.initial.places ≤ vec_len l.places;
}

abbrev pub decreases-loop-places : goal.decreases-loop-places
decreases-loop-places g l = 1024 - vec_len l.places
