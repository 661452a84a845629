-- How a watch stands after a watched run: as a watch by context that is told the same calls, with the stacks of the map
-- that tells code by its addresses.
use Rattle.std.proofs.Common.{◌≡◌, ℕ, ◌<◌, ◌==◌, Bool, true, false, List, [], ◌∷◌, ◌++◌, Option, None, Some, IfSome}
use Rattle.std.proofs.Common.{length, refl, ap, sym, subst, ◌∙◌, arith, if◌then◌else◌}
use Rattle.std.specs.List.{AllByRecursion}
use Rattle.event_costs.specs.declared.numbers.ThreadNo.{ThreadNo}
use Rattle.sym_map.specs.AddressMap.{address_map}
use Rattle.sym_map.specs.SymbolMap.{SymbolMap}
use Rattle.shadow_stack.specs.Traces.{EventOnStack}
use Rattle.arc_costs.specs.Contents.{Listed}
use Rattle.cg_format.specs.declared.head.PartHead.{PartHead}
use Rattle.recorder.specs.Rows.{rows_of}
use Rattle.part_dump.specs.Calls.{Call, Readies, Sees, Writes}
use Rattle.part_dump.specs.Steps.{Step, event_of, steps_of_thread, thread_of}
use Rattle.part_dump.specs.Watched.{Fits, last_of, steps_in}
use Rattle.part_dump.specs.Watching.{after_call}
use Rattle.ctx_rows.specs.Folding.{plain}
use Rattle.ctx_rows.specs.Rows.{CtxListed}
use Rattle.ctx_rows.specs.Since as contexts_since
use Rattle.ctx_rows.specs.States as contexts
use Rattle.ctx_rows.specs.Watching.{by_context}
use Rattle.ctx_rows.proofs.CallLemmas as told
use Rattle.addr_rows.proofs.Others.{since_append, since_by, steps_after_are, IsReached}
use Rattle.ctx_rows.proofs.HoldsLemmas as oracle
use Rattle.ctx_rows.proofs.LastLemmas as oracle_last
use Rattle.addr_rows.specs.EventRows.{addr_rows_of, located_rows}
use Rattle.addr_rows.specs.Rows.{AddrListed}
use Rattle.addr_rows.specs.Stacked.{since_after, with_stack_of}
use Rattle.addr_rows.specs.States.{AddrState, first_map, context_state_after}
use Rattle.addr_rows.specs.Telling.{CanSee, CanWrite, CanSeeWith, rows_if, rows_in, thread_rows}
use Rattle.addr_rows.specs.Watching.{IsFresh, by_address}
use Rattle.addr_rows.proofs.KnownRowLemmas.{rows_known}
use Rattle.addr_rows.proofs.RecallLemmas.{fits, recall, recalled, recalled_append, since_recalled, told_length}
use Rattle.addr_rows.proofs.SingleLemmas.{single_rows}

-- ---- events by the map of addresses, call by call

-- a step counts with its stack by a map
abbrev pub by_stack : SymbolMap → List Step → Step → EventOnStack
by_stack n past x = (with_stack_of n past x).on_stack

-- the events of a thread since its last part
abbrev pub events_of : SymbolMap → ℕ → List Call → List EventOnStack
events_of m thread calls = told.since_after (by_stack (address_map m)) thread [] [] calls

pub events_more : (m : SymbolMap) (thread : ℕ) (calls : List Call) (c : Call)
    → events_of m thread (calls ++ c ∷ [])
    ≡ since_by (by_stack (address_map m)) thread (steps_in calls) c (events_of m thread calls)
events_more m thread calls c =
    since_append (by_stack (address_map m)) thread [] [] calls (c ∷ [])
    ∙ ap (λ xs. since_by (by_stack (address_map m)) thread xs c (events_of m thread calls)) (steps_after_are [] calls)

pub since_told : (n : SymbolMap) (thread : ℕ) (steps : List Step) (before : List EventOnStack) (cs : List Call)
    → since_after n thread steps before cs ≡ told.since_after (by_stack n) thread steps before cs
since_told n thread steps before [] = refl
since_told n thread steps before (Readies t pc ∷ cs) = since_told n thread steps before cs
since_told n thread steps before (Sees x ∷ cs) =
    since_told n thread (steps ++ x ∷ [])
    (if thread_of x == thread then before ++ (with_stack_of n steps x).on_stack ∷ [] else before) cs
since_told n thread steps before (Writes head rows ∷ cs) =
    since_told n thread steps (if head.thread.0 == thread then [] else before) cs

-- ---- the map that a watch is over

-- There is none before the first call; from then on it is that of the run.
abbrev pub IsOver : SymbolMap → Option SymbolMap → List Call → Type 0
IsOver m over [] = over ≡ None
IsOver m over (c ∷ cs) = over ≡ Some m

over_first : (m : SymbolMap) (over : Option SymbolMap) (calls : List Call) → IsOver m over calls
    → first_map m over ≡ m
over_first m over [] is = ap (first_map m) is
over_first m over (c ∷ cs) is = ap (first_map m) is

over_last : (m : SymbolMap) (over : Option SymbolMap) (calls : List Call) (d : Call) → IsOver m over calls
    → last_of calls ≡ Some d → over ≡ Some m
over_last m over [] d is last = absurd (cc)
over_last m over (c ∷ cs) d is last = is

over_steps : (m : SymbolMap) (over : Option SymbolMap) (calls : List Call) (thread : ℕ) → IsOver m over calls
    → 0 < length (steps_of_thread thread (steps_in calls)) → over ≡ Some m
over_steps m over [] thread is some = absurd (omega (arith, some))
over_steps m over (c ∷ cs) thread is some = is

over_more : (m : SymbolMap) (over : Option SymbolMap) (calls : List Call) (c : Call) → over ≡ Some m
    → IsOver m over (calls ++ c ∷ [])
over_more m over [] c is = is
over_more m over (d ∷ calls) c is = is

-- ---- how a watch stands

pub record Holds (m : SymbolMap) (w : AddrState) (calls : List Call) : Type 0 where
  pub first_syms : IsOver m w.first_syms calls
  pub watched : oracle.Holds (address_map m) 0 w.watched (recalled (address_map m) [] calls)

pub fresh_holds : (m : SymbolMap) (first : AddrState) → IsFresh first → Holds m first []
fresh_holds m first fresh = record {
  first_syms = fresh.first_syms;
  watched = subst (λ k. oracle.Holds (address_map m) k first.watched []) fresh.callers
      (oracle_last.fresh_holds (address_map m) first.watched fresh.watched);
}

module _ (m : SymbolMap) (w : AddrState) (calls : List Call) (holds : Holds m w calls) where
  abbrev n : SymbolMap
  n = address_map m

  abbrev heard : List Call
  heard = recalled n [] calls

  -- ---- a call more

  over_after : (c : Call) → Fits m calls c → (after_call by_address m w c).first_syms ≡ Some m
  over_after (Readies thread pc) fit = ap (λ (o : SymbolMap). Some o) (over_first m w.first_syms calls holds.first_syms)
  over_after (Sees x) fit =
      over_last m w.first_syms calls (Readies (event_of x).thread (event_of x).done.pc) holds.first_syms fit.0
  over_after (Writes head rows) fit = over_steps m w.first_syms calls head.thread.0 holds.first_syms fit.0

  watched_after : (c : Call) → Fits m calls c
      → (after_call by_address m w c).watched ≡ after_call by_context n w.watched (recall n (steps_in calls) c)
  watched_after (Readies thread pc) fit =
      ap (λ (o : SymbolMap). contexts.after_ready w.watched thread pc (address_map o))
      (over_first m w.first_syms calls holds.first_syms)
  watched_after (Sees x) fit =
      ap (λ (o : Option SymbolMap). context_state_after o w.watched (event_of x) x.on_stack.cost) (over_after (Sees x) fit)
  watched_after (Writes head rows) fit = refl

  pub holds_more : (c : Call) → Fits m calls c → Holds m (after_call by_address m w c) (calls ++ c ∷ [])
  holds_more c fit = record {
    first_syms = over_more m (after_call by_address m w c).first_syms calls c (over_after c fit);
    watched = subst (λ (s : contexts.CtxState). oracle.Holds n 0 s (recalled n [] (calls ++ c ∷ [])))
        (sym (watched_after c fit))
        (subst (oracle.Holds n 0 (after_call by_context n w.watched (recall n (steps_in calls) c)))
        (sym (recalled_append n [] calls (c ∷ [])))
        (oracle_last.holds_more n 0 w.watched heard (recall n (steps_in calls) c) holds.watched (fits m calls c fit)));
  }

  -- ---- rows

  events_are : (thread : ℕ) → contexts_since.since thread heard ≡ events_of m thread calls
  events_are thread = since_recalled n thread [] [] calls ∙ since_told n thread [] [] calls

  rows_are : (thread : ThreadNo) → contexts.knows w.watched thread ≡ true
      → rows_in m w.watched thread ≡ addr_rows_of m (events_of m thread.0 calls)
  unfolding rows_in addr_rows_of
  rows_are thread known =
      ap (λ (rows : CtxListed). located_rows m (plain rows)) (oracle_last.rows_now n 0 w.watched heard holds.watched thread known)
      ∙ ap (located_rows m)
      (single_rows n (contexts_since.since thread.0 heard) (holds.watched.tracks thread known).stand)
      ∙ ap (λ (xs : List EventOnStack). located_rows m (rows_of n xs)) (events_are thread.0)

  known_rows : (thread : ThreadNo) → contexts.knows w.watched thread ≡ true → w.first_syms ≡ Some m
      → thread_rows w thread ≡ Some (addr_rows_of m (events_of m thread.0 calls))
  known_rows thread known over =
      ap (λ (o : Option SymbolMap). rows_if o w.watched thread) over
      ∙ ap (λ b. if b then Some (rows_in m w.watched thread) else None) known
      ∙ ap (λ rows. Some rows) (rows_are thread known)

  -- those of a thread that has made a step
  pub rows_there : (thread : ThreadNo) → 0 < length (steps_of_thread thread.0 (steps_in calls))
      → (thread_rows w thread ≡ Some (addr_rows_of m (events_of m thread.0 calls)))
      × AllByRecursion (IsReached n) (events_of m thread.0 calls)
  rows_there thread some = by (contexts.knows w.watched thread) refl
    where
      by : (b : Bool) → contexts.knows w.watched thread ≡ b
          → (thread_rows w thread ≡ Some (addr_rows_of m (events_of m thread.0 calls)))
          × AllByRecursion (IsReached n) (events_of m thread.0 calls)
      by true known = (
        known_rows thread known (over_steps m w.first_syms calls thread.0 holds.first_syms some),
        subst (AllByRecursion (IsReached n)) (events_are thread.0) (holds.watched.tracks thread known).reached,
      )
      by false none =
          absurd (omega (
            arith,
            some,
            sym (told_length m calls thread.0)
                ∙ ap (λ (xs : List Step). length xs) (holds.watched.unknown thread none).0,
          ))

  -- those of any thread
  pub rows_now : (thread : ThreadNo)
      → IfSome (thread_rows w thread) (λ rows. rows ≡ addr_rows_of m (events_of m thread.0 calls))
  rows_now thread = go calls holds.first_syms
    where
      go : (cs : List Call) → IsOver m w.first_syms cs
          → IfSome (thread_rows w thread) (λ rows. rows ≡ addr_rows_of m (events_of m thread.0 calls))
      go [] over =
          subst (λ (o : Option SymbolMap). IfSome (rows_if o w.watched thread)
          (λ rows. rows ≡ addr_rows_of m (events_of m thread.0 calls))) (sym over) tt
      go (c ∷ cs) over = by (contexts.knows w.watched thread) refl
        where
          by : (b : Bool) → contexts.knows w.watched thread ≡ b
              → IfSome (thread_rows w thread) (λ rows. rows ≡ addr_rows_of m (events_of m thread.0 calls))
          by true known =
              subst (λ (o : Option AddrListed). IfSome o (λ rows. rows ≡ addr_rows_of m (events_of m thread.0 calls)))
              (sym (known_rows thread known over)) refl
          by false none =
              subst (λ (o : Option SymbolMap). IfSome (rows_if o w.watched thread)
              (λ rows. rows ≡ addr_rows_of m (events_of m thread.0 calls))) (sym over)
              (subst (λ b. IfSome (if b then Some (rows_in m w.watched thread) else None)
              (λ rows. rows ≡ addr_rows_of m (events_of m thread.0 calls))) (sym none) tt)

  -- ---- what may be told and asked

  pub can_see : (x : Step) → Fits m calls (Sees x) → CanSee w (event_of x) x.on_stack.cost
  can_see x fit =
      subst (λ (o : Option SymbolMap). CanSeeWith o w.watched (event_of x) x.on_stack.cost) (sym (over_after (Sees x) fit))
      (oracle.can_see n 0 w.watched heard holds.watched (with_stack_of n (steps_in calls) x) (fits m calls (Sees x) fit))

  pub can_write : (head : PartHead) (rows : Listed) → Fits m calls (Writes head rows)
      → CanWrite m (thread_rows w head.thread)
  can_write head rows fit =
      let there = rows_there head.thread fit.0 in
      subst (CanWrite m) (sym there.0) (λ sound. rows_known m sound (events_of m head.thread.0 calls) there.1)
