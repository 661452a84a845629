use Rattle.std.proofs.Common.{◌++◌, [], ◌∷◌, None, take, get_or}
use Rattle.wait_report.specs.Standing.{step}
use Rattle.wait_report.specs.inner.Room.{books_of}
use Rattle.wait_report.proofs.FitLemmas.{can_end, passed_stands}
use Rattle.wait_report.proofs.waits.wake_all.Goals as goal

pub wake-requires-clause-fits : goal.wake-requires-clause-fits
wake-requires-clause-fits c =
    let has = c.requires.passed in
    let woken = take c.woken.thread-index c.args.woken.now in
    can_end (books_of c.woken.books) (has.earlier ++ step has.on_stack None woken ∷ [])
    (passed_stands (books_of c.args.books.now) (books_of c.woken.books) c.args.waker woken has c.woken.invariant.kept)
    c.args.waker (get_or c.args.woken.now c.woken.thread-index (record { 0 = 0 }))
