use Rattle.std.proofs.Common.{◌*◌, get_or, if◌then◌else◌}
use Rattle.sym_map.specs.SymbolMap.{place_of}
use Rattle.shadow_stack.specs.Changes.{change}
use Rattle.shadow_stack.specs.Traces.{EventOnStack}
use Rattle.event_costs.specs.Order.{same_place}
use Rattle.recorder.specs.Sums.{entered_by, pushes}
use Rattle.recorder.proofs.LawLemmas.{over_everything}
use Rattle.recorder.proofs.laws.segments_sum_up.Goals as goal

pub returns-clause-lines : goal.returns-clause-lines
returns-clause-lines c = λ syms threads cuts xs kind place apart inside.
    over_everything
    (λ (x : EventOnStack). if same_place place (place_of syms x.event.done.pc) then get_or x.cost kind 0
    else 0) threads cuts xs apart inside

pub returns-clause-arcs : goal.returns-clause-arcs
returns-clause-arcs c = λ threads cuts xs kind arc apart inside.
    over_everything (λ (x : EventOnStack). get_or x.cost kind 0 * entered_by arc x.stack) threads cuts xs apart inside

pub returns-clause-calls : goal.returns-clause-calls
returns-clause-calls c = λ syms threads cuts xs arc apart inside.
    over_everything (λ (x : EventOnStack). pushes arc (change syms x.event x.stack).pushed) threads cuts xs apart inside
