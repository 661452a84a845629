use Rattle.std.proofs.Common.{◌≡◌, ◌++◌, None, map, length}
use Rattle.cg_lines.specs.Lines.{lines}
use Rattle.cg_read.specs.inner.KnowingAddresses.{KnowsAddresses}
use Rattle.cg_read.specs.Addresses.{without_addresses}
use Rattle.cg_read.specs.AddressReading.{history_of, bad_line}
use Rattle.cg_read.specs.Reading.{last_line}
use Rattle.cg_read.proofs.addr_read.take_lines.Given as goal

abbrev pub invariant-lines : goal.invariant-lines
invariant-lines l =
    let seen = map (λ text. text.now) l.yielded in
    record {
      can : (goal.iterator-lines).can_next l.text-iterator;
      ends : (goal.iterator-lines).is_finite l.text-iterator;
      split : lines l.bytes ≡ seen ++ l.text-iterator;
      knows : KnowsAddresses l.reader (history_of seen);
      sound : bad_line (history_of seen) ≡ None;
      number : l.number ≡ length l.yielded;
      last : l.last ≡ last_line (without_addresses (history_of seen));
    }
