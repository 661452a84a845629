-- Stretches of addresses that share none.
use Rattle.std.specs.Prelude.{ℕ, ◌+◌, ◌≤◌, List, Bool, nat_lt, nat_le, min, max, ◌&&◌}
use Rattle.std.specs.List.{count_by}
use Rattle.prog_make.specs.declared.span.Span.{Span}

-- the address lies in the span
abbrev pub within : ℕ → Span → Bool
within a s = nat_le s.start a && nat_lt a (s.start + s.len)

-- some address lies in both
abbrev pub overlaps : Span → Span → Bool
overlaps s t = nat_lt (max s.start t.start) (min (s.start + s.len) (t.start + t.len))

-- no address lies in two
abbrev pub AreSpansApart : List Span → Type 0
AreSpansApart spans = (a : ℕ) → count_by (within a) spans ≤ 1
