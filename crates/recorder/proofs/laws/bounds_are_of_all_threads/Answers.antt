use Rattle.recorder.proofs.ThreadBounds.{all_same, all_within, new_within}
use Rattle.recorder.proofs.laws.bounds_are_of_all_threads.Goals as goal

pub returns-clause-none : goal.returns-clause-none
returns-clause-none c = λ steps r none. new_within steps r none

pub returns-clause-one : goal.returns-clause-one
returns-clause-one c =
    λ steps more r s thread up all own others. all_within steps more r s thread up all own others

pub returns-clause-same : goal.returns-clause-same
returns-clause-same c = λ steps r s same all. all_same steps r s same all
