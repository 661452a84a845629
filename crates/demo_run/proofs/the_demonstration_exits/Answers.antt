use Rattle.std.proofs.Common.{arith}
use Rattle.demo_run.proofs.ExitLemmas.{ends}
use Rattle.demo_run.proofs.the_demonstration_exits.Goals as goal

pub returns : goal.returns
returns c = λ size quantum seed file input args some most is short.
    let end = ends size quantum seed file input args some most is short in
    let long = end.long in
    record { waits = end.waits; few = end.few; trace = end.trace; is = end.is; long = omega arith }
