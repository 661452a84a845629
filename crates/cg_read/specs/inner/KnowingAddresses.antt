-- What a reader of lines with addresses knows of those that it has read.
use Rattle.std.specs.Prelude.{◌≡◌, ◌∷◌, List, None, Result, MatchResult}
use Rattle.cg_read.specs.Addresses as addresses
use Rattle.cg_read.specs.Addresses.{without_addresses, fault}
use Rattle.cg_read.specs.inner.Knowing.{Knows}
use Rattle.cg_lines.specs.Faults.{Refuses}
use Rattle.cg_lines.specs.declared.fault.Fault.{Fault}
use Rattle.cg_lines.specs.declared.addressed.AddressedLine.{AddressedLine}
use Rattle.cg_read.specs.declared.addr_reader.AddrReader.{AddrReader}

-- It knows the lines without their addresses, and the addresses.
pub record KnowsAddresses (r : AddrReader) (before : List AddressedLine) : Type 0 where
  pub lines : Knows r.reader (without_addresses before)
  pub positions : r.has_positions ≡ addresses.has_positions before
  pub base : r.addresses.base ≡ addresses.base before
  pub self_rows : r.addresses.self_rows.items ≡ addresses.self_addresses before
  pub call_rows : r.addresses.call_rows.items ≡ addresses.call_addresses before

-- The line gave this result: the reader knows it too, or the line's fault was answered.
abbrev pub TakesAddressed : AddrReader → AddressedLine → Result (Unit {0}) Fault → AddrReader → Type 0
TakesAddressed old a result new = (before : List AddressedLine) → KnowsAddresses old before
    → MatchResult result (λ _. KnowsAddresses new (a ∷ before) × (fault before a ≡ None))
    (λ e. Refuses e (fault before a))
