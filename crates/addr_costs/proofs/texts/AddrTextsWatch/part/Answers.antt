use Rattle.std.proofs.Common.{◌≡◌, IfOk, subst}
use Rattle.sym_map.specs.SymbolMap.{SymbolMap}
use Rattle.addr_rows.specs.EventRows.{located_rows}
use Rattle.addr_rows.specs.Texts.{addr_text}
use Rattle.addr_costs.proofs.TextsLemmas.{rows_known}
use Rattle.addr_costs.proofs.texts.AddrTextsWatch.part.Goals as goal

pub write_located-requires : goal.write_located-requires
write_located-requires c =
    rows_known c.self.inside.syms c.args.self.now c.args._syms.now c.args.rows.now c.self.view_is
    c.maps_are_sound.ensures c.requires

pub returns-clause-text : goal.returns-clause-text
returns-clause-text c =
    subst (λ (n : SymbolMap). IfOk c.write_located.result (λ text. text ≡ addr_text c.args.head.now
    (located_rows n c.args.rows.now) n)) c.self.view_is c.write_located.ensures
