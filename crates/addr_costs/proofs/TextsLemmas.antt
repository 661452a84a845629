-- The rows of a part, with the places of the map that gives them.
use Rattle.std.proofs.Common.{◌≡◌, ap, sym, subst, ◌∙◌}
use Rattle.arc_costs.specs.Contents.{Listed}
use Rattle.cg_format.specs.Part as part
use Rattle.sym_map.specs.AddressMap.{address_map}
use Rattle.sym_map.specs.SymbolMap.{IsSound, SymbolMap}
use Rattle.addr_rows.specs.EventRows.{located_rows}
use Rattle.addr_rows.specs.Known.{AreKnown}
use Rattle.addr_rows.specs.Translated.{CanTranslate}
use Rattle.addr_rows.proofs.KnownRowLemmas.{located_known}

-- what is located is of the map
pub rows_known : (m now told : SymbolMap) (rows : Listed) → m ≡ now → IsSound m → CanTranslate now rows told
    → AreKnown m (located_rows m rows)
rows_known m now told rows is sound can =
    located_known m sound rows
    (subst (λ (n : SymbolMap). part.AreKnown n rows) (can.first_syms ∙ ap address_map (sym is)) can.known)
