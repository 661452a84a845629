-- Rows by address, as they are listed.
use Rattle.std.specs.Prelude.{List}
use Rattle.event_costs.specs.declared.numbers.ThreadNo.{ThreadNo}
use Rattle.addr_rows.specs.declared.rows.AddrArc.{AddrArc}
use Rattle.addr_rows.specs.declared.rows.AddrLine.{AddrLine}

pub record AddrListed : Type 0 where
  pub lines : List AddrLine
  pub arcs : List AddrArc

-- the rows of a thread
pub record OfThread : Type 0 where
  pub thread : ThreadNo
  pub rows : AddrListed
