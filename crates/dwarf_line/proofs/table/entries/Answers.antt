use Rattle.std.proofs.Common.{◌≡◌, Some, arith}
use Rattle.std.proofs.lemmas.List.{map_push}
use Rattle.dwarf_line.specs.Table.{entry_at}
use Rattle.dwarf_line.specs.inner.Paths.{entry_in}
use Rattle.dwarf_line.proofs.Many.{goes_on}
use Rattle.dwarf_line.proofs.table.entries.Goals as goal

pub entries-preserved : goal.entries-preserved
entries-preserved c =
    let found : c.read.result ≡ Some c.in_ok-entry.entry = c.in_ok-entry.ensures.ok_part in
    let one = rw found at c.read.ensures.read in
    let shorter = rw found at c.read.ensures.shrinks in
    record {
      rest = rw (
        c.in_ok-push.ensures.items,
        map_push (entry_in c.args.strings.now) c.entries.entries.items c.in_ok-entry.entry,
      ) (goes_on (entry_at c.args.strings.now c.args.format.now) _ _ _ _ _ _ _ c.entries-test.true one
          c.entries.invariant.rest);
      room = omega (arith, c.in_ok-push.ensures.len, c.requires);
    }
