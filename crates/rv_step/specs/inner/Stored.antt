-- What an instruction stores in memory.
use Rattle.std.specs.Prelude.{◌≡◌, ℕ, ◌≤◌, Bool, true, false, List, length}
use Rattle.event_costs.specs.declared.event.Touch.{Touch}
use Rattle.event_costs.specs.declared.event.Touch.TheVariants as touch
use Rattle.guest_mem.specs.Memory.{Memory, store_at}
use Rattle.rv_decode.specs.declared.instr.Op.{Op}
use Rattle.rv_decode.specs.declared.instr.Op.TheVariants.{SB, SH, SW, SC, AMOSWAP, AMOADD, AMOXOR, AMOAND, AMOOR}
use Rattle.rv_decode.specs.declared.instr.Op.TheVariants.{AMOMIN, AMOMAX, AMOMINU, AMOMAXU}
use Rattle.rv_step.specs.declared.stepped.Stepped.{Stepped}
use Rattle.rv_step.specs.declared.stepped.Stepped.TheVariants.{Retired, Call, Trap, Unknown}

-- whether it may store
abbrev pub may_store : Op → Bool
may_store SB = true
may_store SH = true
may_store SW = true
may_store SC = true
may_store AMOSWAP = true
may_store AMOADD = true
may_store AMOXOR = true
may_store AMOAND = true
may_store AMOOR = true
may_store AMOMIN = true
may_store AMOMAX = true
may_store AMOMINU = true
may_store AMOMAXU = true
may_store _ = false

-- at most four bytes were stored at an address
pub record IsStoredAt (a : ℕ) (old new : Memory) : Type 0 where
  pub bytes : List ℕ
  pub few : length bytes ≤ 4
  pub stores : new ≡ store_at old a bytes

-- where data was referred to, if it was, at most four bytes were stored
abbrev pub IsStoredIn : Touch → Memory → Memory → Type 0
IsStoredIn touch.Nothing old new = new ≡ old
IsStoredIn (touch.Read a n) old new = IsStoredAt a old new
IsStoredIn (touch.Write a n) old new = IsStoredAt a old new

abbrev pub IsStoredBy : Stepped → Memory → Memory → Type 0
IsStoredBy (Retired done) old new = IsStoredIn done.touch old new
IsStoredBy Call old new = new ≡ old
IsStoredBy (Trap signal) old new = new ≡ old
IsStoredBy (Unknown word) old new = new ≡ old
