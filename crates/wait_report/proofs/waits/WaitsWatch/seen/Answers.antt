use Rattle.std.proofs.Common.{◌++◌, [], ◌∷◌, None, Some, ap}
use Rattle.wait_report.specs.Standing.{step}
use Rattle.wait_report.specs.inner.Room.{books_of}
use Rattle.wait_report.proofs.FitLemmas.{begun_stands, can_add, can_begin, has_passed, passed_stands, sound}
use Rattle.wait_report.proofs.RoomLemmas.{no_room, same_room, step_room}
use Rattle.wait_report.proofs.waits.WaitsWatch.seen.Goals as goal

pub add-requires : goal.add-requires
add-requires c =
    can_add c.args.self.now c.args.event.now c.args.cost.now c.args.wait c.args.woken.now c.args._syms.now c.requires
    (books_of c.self.inside.books) (ap (λ w. w.books) c.self.view_is)

pub wake_all-requires-clause-room : goal.wake_all-requires-clause-room
wake_all-requires-clause-room c =
    step_room c.args.self.now c.self.inside.books c.add.new.self c.self.inside.room c.self.view_is c.self.invariant.1
    c.requires.room

pub wake_all-requires-clause-passed : goal.wake_all-requires-clause-passed
wake_all-requires-clause-passed c =
    has_passed c.args.self.now c.args.event.now c.args.cost.now c.args.wait c.args.woken.now c.args._syms.now c.requires
    (books_of c.self.inside.books) (ap (λ w. w.books) c.self.view_is)
    (record (books_of c.self.inside.books) { total = c.add.new.self })
    (ap (λ t. record (books_of c.self.inside.books) { total = t }) c.add.ensures.sum)

pub begin-requires-clause-fits : goal.begin-requires-clause-fits
begin-requires-clause-fits c =
    let has = has_passed c.args.self.now c.args.event.now c.args.cost.now c.args.wait c.args.woken.now c.args._syms.now
    c.requires (books_of c.self.inside.books) (ap (λ w. w.books) c.self.view_is)
    (record (books_of c.self.inside.books) { total = c.add.new.self })
    (ap (λ t. record (books_of c.self.inside.books) { total = t }) c.add.ensures.sum) in
    can_begin (books_of c.wake_all.new.books) (has.earlier ++ step has.on_stack None c.args.woken.now ∷ [])
    (passed_stands (record (books_of c.self.inside.books) { total = c.add.new.self }) (books_of c.wake_all.new.books)
    c.args.event.now.thread c.args.woken.now has c.wake_all.ensures.kept)
    c.args.event.now.thread c.in-Some.word

pub invariant_of-self : goal.invariant_of-self
invariant_of-self c =
    let kept = record (books_of c.self.inside.books) { total = c.add.new.self } in
    let has = has_passed c.args.self.now c.args.event.now c.args.cost.now c.args.wait c.args.woken.now c.args._syms.now
    c.requires (books_of c.self.inside.books) (ap (λ w. w.books) c.self.view_is) kept
    (ap (λ t. record (books_of c.self.inside.books) { total = t }) c.add.ensures.sum) in (
      sound kept (has.earlier ++ step has.on_stack None [] ∷ []) has.stands,
      same_room c.self.inside.room c.self.inside.books c.add.new.self c.self.invariant.1,
    )

pub invariant_of-self-in-Some : goal.invariant_of-self-in-Some
invariant_of-self-in-Some c =
    let has = has_passed c.args.self.now c.args.event.now c.args.cost.now c.args.wait c.args.woken.now c.args._syms.now
    c.requires (books_of c.self.inside.books) (ap (λ w. w.books) c.self.view_is)
    (record (books_of c.self.inside.books) { total = c.add.new.self })
    (ap (λ t. record (books_of c.self.inside.books) { total = t }) c.add.ensures.sum) in
    let stands = begun_stands (record (books_of c.self.inside.books) { total = c.add.new.self })
    (books_of c.wake_all.new.books) (books_of c.begin.new.self) c.args.event.now.thread c.args.woken.now
    c.in-Some.word has
    c.wake_all.ensures.kept c.begin.ensures in (
      sound (books_of c.begin.new.self) (has.earlier ++ step has.on_stack (Some c.in-Some.word) c.args.woken.now ∷ [])
          stands,
      no_room c.begin.new.self,
    )

pub invariant_of-self-in_default : goal.invariant_of-self-in_default
invariant_of-self-in_default c =
    let has = has_passed c.args.self.now c.args.event.now c.args.cost.now c.args.wait c.args.woken.now c.args._syms.now
    c.requires (books_of c.self.inside.books) (ap (λ w. w.books) c.self.view_is)
    (record (books_of c.self.inside.books) { total = c.add.new.self })
    (ap (λ t. record (books_of c.self.inside.books) { total = t }) c.add.ensures.sum) in
    let stands = passed_stands (record (books_of c.self.inside.books) { total = c.add.new.self })
    (books_of c.wake_all.new.books) c.args.event.now.thread c.args.woken.now has c.wake_all.ensures.kept in (
      sound (books_of c.wake_all.new.books) (has.earlier ++ step has.on_stack None c.args.woken.now ∷ []) stands,
      no_room c.wake_all.new.books,
    )
