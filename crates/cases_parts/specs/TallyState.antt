-- A watch that counts its calls and sees them in order: each call is told as numbers, which it mixes one after another.
use Rattle.std.specs.Prelude.{ℕ, ◌+◌, ◌*◌, ◌%◌, ◌^◌, ◌++◌, List, [], ◌∷◌, Option, None, Some, codes, decimal, fold}
use Rattle.event_costs.specs.declared.numbers.ThreadNo.{ThreadNo}
use Rattle.outside.specs.Plan.{one_more}
use Rattle.part_dump.specs.Watching.{Meaning}

-- how many calls there were, and what their numbers are mixed to
pub record TallyState : Type 0 where
  pub calls : ℕ
  pub order : ℕ

-- a number more
abbrev pub mix_number : ℕ → ℕ → ℕ
mix_number order number = ((order * 31) % 2 ^ 64 + number) % 2 ^ 64

abbrev pub address_number : Option ℕ → ℕ
address_number None = 0
address_number (Some address) = address

abbrev pub mix_thread : ℕ → ThreadNo → ℕ
mix_thread order thread = mix_number order thread.0

-- a call more, which is told by these numbers
abbrev pub tally_call : TallyState → List ℕ → TallyState
tally_call w numbers = record { calls = one_more w.calls; order = fold mix_number w.order numbers }

-- a step more: its thread, pc, address to wait at and cost, and the threads that it woke
abbrev pub tally_step : TallyState → List ℕ → List ℕ → List ThreadNo → TallyState
tally_step w numbers cost woken = record {
  calls = one_more w.calls;
  order = fold mix_thread (fold mix_number (fold mix_number w.order numbers) cost) woken;
}

-- The text of a part says how many calls there were before it.
abbrev pub tally : Meaning TallyState
tally = record {
  after_ready = λ w thread pc syms. tally_call w (1 ∷ thread.0 ∷ pc ∷ []);
  after_seen = λ w event cost wait woken syms.
      tally_step w (2 ∷ event.thread.0 ∷ event.done.pc ∷ address_number wait ∷ []) cost woken;
  after_part = λ w head rows syms. tally_call w (3 ∷ head.part ∷ head.thread.0 ∷ []);
  text = λ w head rows syms. codes "after " ++ decimal w.calls;
}
