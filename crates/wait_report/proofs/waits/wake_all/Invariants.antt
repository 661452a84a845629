use Rattle.std.proofs.Common.{◌≡◌, take}
use Rattle.wait_report.specs.Keeping.{wakes_all}
use Rattle.wait_report.specs.inner.Room.{HasRoomForStep, books_of}
use Rattle.wait_report.proofs.waits.wake_all.Given as goal

abbrev pub invariant-woken : goal.invariant-woken
invariant-woken l = record {
  kept : books_of l.books ≡ wakes_all l.fn.waker (take l.thread-index l.woken) (books_of l.initial.books);
  room : HasRoomForStep l.books;
}
