use Rattle.std.proofs.Common.{subst}
use Rattle.sym_map.specs.SymbolMap.{IsSound}
use Rattle.sym_map.proofs.Soundness.{sound}
use Rattle.sym_map.proofs.laws.maps_are_sound.Goals as goal

pub returns : goal.returns
returns c = subst IsSound c.syms.view_is (sound _ _ _ _ _ c.syms.invariant.0)
