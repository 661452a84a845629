-- What a watch makes of the calls that it is told, and the files that its parts are.
use Rattle.std.specs.Prelude.{ℕ, List, [], ◌∷◌, ◌++◌, fold, Option}
use Rattle.event_costs.specs.declared.event.Event.{Event}
use Rattle.event_costs.specs.declared.numbers.ThreadNo.{ThreadNo}
use Rattle.sym_map.specs.SymbolMap.{SymbolMap}
use Rattle.arc_costs.specs.Contents.{Listed}
use Rattle.cg_format.specs.declared.head.PartHead.{PartHead}
use Rattle.part_dump.specs.Calls.{Call, Readies, Sees, Writes}
use Rattle.outside.specs.Outside.{Named}
use Rattle.part_dump.specs.Files.{part_name}

-- The meaning of a watch: its state after each call, and the text that it answers for a part.
pub record Meaning (W : Type 0) : Type 0 where
  pub after_ready : W → ThreadNo → ℕ → SymbolMap → W
  pub after_seen : W → Event → List ℕ → Option ℕ → List ThreadNo → SymbolMap → W
  pub after_part : W → PartHead → Listed → SymbolMap → W
  pub text : W → PartHead → Listed → SymbolMap → List ℕ

-- the state after a call
abbrev pub after_call : {W : Type 0} → Meaning W → SymbolMap → W → Call → W
after_call meaning syms w (Readies thread pc) = meaning.after_ready w thread pc syms
after_call meaning syms w (Sees x) = meaning.after_seen w x.on_stack.event x.on_stack.cost x.wait x.woken syms
after_call meaning syms w (Writes head rows) = meaning.after_part w head rows syms

-- the state after calls, one after another
abbrev pub after_calls : {W : Type 0} → Meaning W → SymbolMap → W → List Call → W
after_calls meaning syms w cs = fold (after_call meaning syms) w cs

-- the file of a call: that of a part, with the text that the watch answers
abbrev pub put_of : {W : Type 0} → Meaning W → SymbolMap → List ℕ → W → Call → List Named
put_of meaning syms base w (Readies thread pc) = []
put_of meaning syms base w (Sees x) = []
put_of meaning syms base w (Writes head rows) =
    (part_name base head.part head.thread.0, meaning.text w head rows syms) ∷ []

-- the files of calls, one after another
abbrev pub puts : {W : Type 0} → Meaning W → SymbolMap → List ℕ → W → List Call → List Named
puts meaning syms base w [] = []
puts meaning syms base w (c ∷ cs) =
    put_of meaning syms base w c ++ puts meaning syms base (after_call meaning syms w c) cs

-- What may be told of a step, and what a part may be written of, by the state of a watch.
abbrev pub Can : {W : Type 0} → (W → Event → List ℕ → Option ℕ → List ThreadNo → SymbolMap → Type 0)
    → (W → PartHead → Listed → SymbolMap → Type 0) → SymbolMap → W → Call → Type 0
Can see write syms w (Readies thread pc) = Unit {0}
Can see write syms w (Sees x) = see w x.on_stack.event x.on_stack.cost x.wait x.woken syms
Can see write syms w (Writes head rows) = write w head rows syms

-- Once a thread is ready there is room for a step of it, and no step is told where there is none.
pub record KeepsRoom {W : Type 0} (meaning : Meaning W) (has_room : W → ThreadNo → Type 0)
    (see : W → Event → List ℕ → Option ℕ → List ThreadNo → SymbolMap → Type 0) : Type 0 where
  pub ready : (w : W) (thread : ThreadNo) (pc : ℕ) (syms : SymbolMap)
      → has_room (meaning.after_ready w thread pc syms) thread
  pub seen : (w : W) (event : Event) (cost : List ℕ) (wait : Option ℕ) (woken : List ThreadNo) (syms : SymbolMap)
      → see w event cost wait woken syms → has_room w event.thread
