use Rattle.guest_sched.proofs.TurnLemmas.{room_runs, room_yields}
use Rattle.guest_sched.proofs.run_queue.RunQueue.pass_call.Goals as goal

pub enter_all-requires : goal.enter_all-requires
enter_all-requires c = room_runs c.args.fate _ c.args.self.now c.in-Runs.is c.requires.room

pub enter_all-requires-in-Yields : goal.enter_all-requires-in-Yields
enter_all-requires-in-Yields c = room_yields c.args.fate _ c.args.self.now c.in-Yields.is c.requires.room
