use Rattle.std.proofs.Common.{◌∙◌, Option, ap, sym}
use Rattle.std.specs.Prelude.{◌==◌, false}
use Rattle.std.specs.Option.{option_map_or}
use Rattle.sym_map.specs.declared.range.SymbolHere.{SymbolHere}
use Rattle.sym_map.specs.inner.Ranges.{begins_at}
use Rattle.sym_map.proofs.Told.{kept_entry}
use Rattle.sym_map.proofs.symbol_map.SymMap.is_entry.Goals as goal

pub returns-in-Some : goal.returns-in-Some
returns-in-Some c =
    sym (ap (λ (o : Option SymbolHere). option_map_or (λ (s : SymbolHere). s.value == c.args.pc) o false) c.in-Some.is)
    ∙ ap (begins_at c.args.pc) c.here_at.ensures
    ∙ kept_entry c.self.inside _ c.self.view_is c.args.pc c.ranges.pc.fits

pub returns-in-None : goal.returns-in-None
returns-in-None c =
    sym (ap (λ (o : Option SymbolHere). option_map_or (λ (s : SymbolHere). s.value == c.args.pc) o false) c.in-None.is)
    ∙ ap (begins_at c.args.pc) c.here_at.ensures
    ∙ kept_entry c.self.inside _ c.self.view_is c.args.pc c.ranges.pc.fits
