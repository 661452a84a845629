use Rattle.std.proofs.Common.{sym}
use Rattle.recorder.proofs.recorder.Recorder.place_of.Goals as goal

pub returns-in-Some-clause-place : goal.returns-in-Some-clause-place
returns-in-Some-clause-place c = sym c.in-Some.ensures.at

pub returns-in-Some-clause-found : goal.returns-in-Some-clause-found
returns-in-Some-clause-found c = sym c.in-Some.ensures.is_known
