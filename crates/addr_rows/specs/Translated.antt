-- What is made of a run over the map that tells code by its addresses, where the parts are to have the places that
-- another map gives the addresses.
use Rattle.std.specs.Prelude.{◌≡◌}
use Rattle.sym_map.specs.AddressMap.{address_map}
use Rattle.sym_map.specs.SymbolMap.{SymbolMap}
use Rattle.arc_costs.specs.Contents.{Listed}
use Rattle.cg_format.specs.Part.{AreKnown}
use Rattle.part_dump.specs.Watching.{Meaning}
use Rattle.addr_rows.specs.EventRows.{located_rows}
use Rattle.addr_rows.specs.Texts.{addr_text}

-- Its state is that other map, and stays: a part is the text of its rows by address.
abbrev pub translation : Meaning SymbolMap
translation = record {
  after_ready = λ m thread pc told. m;
  after_seen = λ m event cost wait woken told. m;
  after_part = λ m head rows told. m;
  text = λ m head rows told. addr_text head (located_rows m rows) m;
}

-- the run is over the map that tells the code of the other one by its addresses
abbrev pub IsAddressMapOf : SymbolMap → SymbolMap → Type 0
IsAddressMapOf m told = told ≡ address_map m

-- A part may be written of rows of such a run.
pub record CanTranslate (m : SymbolMap) (rows : Listed) (told : SymbolMap) : Type 0 where
  pub first_syms : IsAddressMapOf m told
  pub known : AreKnown told rows
