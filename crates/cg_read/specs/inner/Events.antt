-- The names of a profile's events.
use Rattle.std.specs.Prelude.{◌≡◌, ◌≤◌, ℕ, true, List, length}
use Rattle.cg_read.specs.Profiles.{most_events}
use Rattle.cg_lines.specs.Names.{is_distinct}

pub record AreEvents (names : List (List ℕ)) : Type 0 where
  pub limit : length names ≤ most_events
  pub differ : is_distinct names ≡ true
