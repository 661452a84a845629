-- A machine as contracts see it, from its fields.
use Rattle.guest_sched.specs.Machine.{Machine}
use Rattle.guest_sched.specs.inner.Sound.{engine_of}
use Rattle.guest_sched.specs.declared.machine.Machine.TheInside.{Inside}

abbrev pub machine_of : Inside → Machine
machine_of m = record { engine = engine_of m.engine; given = m.given; wait = m.wait; woken = m.woken }
