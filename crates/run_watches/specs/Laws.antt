-- Watches that make the same of a run, up to the names of their states.
use Rattle.std.specs.Prelude.{◌≡◌, List}
use Rattle.sym_map.specs.SymbolMap.{SymbolMap}
use Rattle.part_dump.specs.Calls.{Call}
use Rattle.part_dump.specs.Watching.{Meaning, after_calls}
use Rattle.profile_run.specs.Parts.{watched_parts}
use Rattle.run_watches.specs.Watching.{watching}
use Rattle.run_watches.specs.declared.run_watch.RunWatch.{RunWatch}

-- One of the watches makes of a run what the watch of this kind makes of it: its parts are the same, and it stays of
-- its kind.
pub record IsOfKind {W : Type 0} (meaning : Meaning W) (kind : W → RunWatch) : Type 0 where
  pub parts : (w : W) → watched_parts watching (kind w) ≡ watched_parts meaning w
  pub states : (m : SymbolMap) (w : W) (calls : List Call)
      → after_calls watching m (kind w) calls ≡ kind (after_calls meaning m w calls)
