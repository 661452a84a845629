use Rattle.std.proofs.Common.{ap, sym, ◌∙◌, arith}
use Rattle.wait_report.specs.Keeping.{open_count}
use Rattle.wait_report.proofs.RoomLemmas.{on_ok, open_count_ended}
use Rattle.wait_report.proofs.books.Books.wake.Goals as goal

pub returns-clause-room : goal.returns-clause-room
returns-clause-room c =
    let room = c.requires.room in
    let ended = open_count_ended c.args.self.now.waiting.entries c.args.thread c.in-Some.held
    (sym c.open_of.ensures ∙ c.in-Some.is) in
    let entries = on_ok c.insert.result (c.insert.ensures.succeeds (omega (arith, room.waiting)))
    c.insert.ensures.entries in
    let count = ap open_count entries in
    record {
      waiting = omega (arith, room.waiting, c.insert.ensures.spare, count, ended);
      sums = omega (arith, room.sums, c.put.ensures.spare, count, ended);
      wakes = omega (arith, room.wakes, c.put-2.ensures.spare, count, ended);
    }
