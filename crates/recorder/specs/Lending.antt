-- One thread's account that is borrowed from a recorder.
use Rattle.std.specs.Prelude.{◌≡◌, Option}
use Rattle.std.specs.Borrow.{Fml, GName, MutBor, RestsIfNone}
use Rattle.event_costs.specs.declared.numbers.ThreadNo.{ThreadNo}
use Rattle.recorder.specs.Accounts.{Account, ledger, Ledger, Recording}
use Rattle.recorder.specs.contracts.recorder.Recorder.{the_row}
use Rattle.recorder.specs.declared.lent.Lent.{Lent}

-- what the recorder keeps, of all threads
abbrev pub recording : Lent → Recording
recording lent = lent.recorder.now

-- whose account it is
abbrev pub thread_of : Lent → ThreadNo
thread_of lent = lent.thread

-- what is kept of that thread, and its account
abbrev pub lent_ledger : Lent → Ledger
lent_ledger lent = ledger (recording lent) (thread_of lent)

abbrev pub lent_account : Lent → Account
lent_account lent = (lent_ledger lent).account

-- the recorder that lent it
abbrev pub lender : Lent → GName
lender lent = lent.recorder.ghost_name

-- It goes on borrowing the same thread's account of the same recorder.
pub record SameLoan (old new : Lent) : Type 0 where
  pub lender : lender new ≡ lender old
  pub thread : thread_of new ≡ thread_of old

-- The recorder ends as the borrow leaves it; where nothing was lent, it is as before.
abbrev pub LendsAccount : MutBor Recording → Option Lent → Fml
LendsAccount recorder lent = RestsIfNone the_row recorder lender lent (λ now. now ≡ recorder.now)
