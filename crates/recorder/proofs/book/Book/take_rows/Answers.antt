use Rattle.std.proofs.Common.{ap, sym, subst}
use Rattle.shadow_stack.specs.Arenas.{frames, LiesIn}
use Rattle.shadow_stack.specs.declared.arena.Head.{Head}
use Rattle.recorder.specs.Accounts.{Account}
use Rattle.recorder.specs.Standing.{SameSums}
use Rattle.recorder.specs.inner.Books.{account_in, IsSoundBook, IsSound}
use Rattle.recorder.specs.declared.book.Book.{Book}
use Rattle.recorder.proofs.BookLemmas.{sound_cut}
use Rattle.recorder.proofs.StandingLemmas.{cleared_account, cut_rows, either_way, gives_same, if_err, if_ok, if_rows}
use Rattle.recorder.proofs.book.Book.take_rows.Goals as goal

pub returns-clause-rows : goal.returns-clause-rows
returns-clause-rows c =
    if_rows c.take.result c.take.ensures.rows
    (λ rows is. cut_rows (account_in c.args.arena.now.slots c.args.self.now)
    (account_in c.cut.new.arena.slots c.cut.new.self) rows c.cut.ensures.gives is)

pub returns-clause-account : goal.returns-clause-account
returns-clause-account c =
    if_ok c.take.result c.take.ensures.lines c.take.ensures.arcs c.take.ensures.had_event
    (λ lines arcs had.
    cleared_account (account_in c.args.arena.now.slots c.args.self.now)
    (account_in c.cut.new.arena.slots c.cut.new.self)
    (account_in c.cut.new.arena.slots c.take.new.self) c.cut.ensures.gives
    c.take.ensures.thread
    (ap (λ (h : Head). frames c.cut.new.arena.slots h) c.take.ensures.head) c.take.ensures.total lines arcs had)

pub returns-clause-err : goal.returns-clause-err
returns-clause-err c =
    if_err c.take.result c.take.ensures.err
    (λ same. subst
    (λ (b : Book). SameSums (account_in c.args.arena.now.slots c.args.self.now)
    (account_in c.cut.new.arena.slots b)) (sym same)
    (gives_same (account_in c.args.arena.now.slots c.args.self.now)
    (account_in c.cut.new.arena.slots c.cut.new.self) c.cut.ensures.gives))

pub returns-clause-kept : goal.returns-clause-kept
returns-clause-kept c =
    either_way c.take.result (returns-clause-account c) c.take.ensures.err
    (λ is. record {
      lies = subst (λ (h : Head). LiesIn c.cut.new.arena.slots h) (sym c.take.ensures.head) c.cut.ensures.kept.lies;
      sound =
          subst (λ (a : Account). IsSound a) (sym is)
          (sound_cut (account_in c.args.arena.now.slots c.args.self.now) c.requires.kept.sound);
    })
    (λ same. subst (λ (b : Book). IsSoundBook c.cut.new.arena.slots b) (sym same) c.cut.ensures.kept)
