use Rattle.std.proofs.Common.{◌≡◌, Some, arith}
use Rattle.dwarf_line.specs.Table.{pair_at}
use Rattle.dwarf_line.proofs.Many.{goes_on}
use Rattle.dwarf_line.proofs.table.format.Goals as goal

pub fields-preserved : goal.fields-preserved
fields-preserved c =
    let found : c.field.result ≡ Some c.in_ok-field.field = c.in_ok-field.ensures.ok_part in
    let one = rw found at c.field.ensures.read in
    let shorter = rw found at c.field.ensures.shrinks in
    record {
      rest = rw c.in_ok-push.ensures.items
          (goes_on pair_at _ _ _ _ _ _ _ c.fields-test.true one c.fields.invariant.rest);
      len = omega (arith, c.in_ok-push.ensures.len);
      shrinks = omega arith;
    }
