-- Whether the run is cut after a step, and what the puts of its parts leave.
use Rattle.std.proofs.Common.{◌≡◌, ℕ, ◌+◌, ◌<◌, ◌≤◌, ◌⊎◌, nat_lt, true, false, List, [], ◌∷◌, ◌++◌, length}
use Rattle.std.proofs.Common.{None, Some, Result, Ok, Err, ap, sym, subst, ◌∙◌, arith}
use Rattle.std.specs.Result.{IsErrAnd}
use Rattle.std.proofs.lemmas.Bool.Decides.{nat_tests}
use Rattle.std.proofs.lemmas.List.{append-nil, length-map}
use Rattle.outside.specs.Outside.{Shelf}
use Rattle.event_costs.specs.declared.numbers.FuncId.{FuncId}
use Rattle.event_costs.specs.declared.numbers.ThreadNo.{ThreadNo}
use Rattle.event_costs.specs.declared.outcome.Noted.{Noted}
use Rattle.cg_format.specs.declared.trigger.Trigger.{Trigger}
use Rattle.cache_lru.specs.Costs.{RunCosts}
use Rattle.sym_map.specs.SymbolMap.{SymbolMap}
use Rattle.cg_format.specs.declared.head.PartHead.{PartHead}
use Rattle.guest_sched.specs.Machine.{Machine}
use Rattle.part_dump.specs.Cuts.{cut_after, cuts, most_cuts}
use Rattle.part_dump.specs.Rules.{IsNotedOf}
use Rattle.part_dump.specs.Steps.{Step}
use Rattle.part_dump.specs.Watching.{Meaning, after_calls, puts}
use Rattle.profile_run.proofs.Others.{length-push}
use Rattle.recorder.specs.Accounts.{Recording, knows}
use Rattle.recorder.specs.Accounts as books
use Rattle.recorder.specs.inner.Known.{KnowsPlaces}
use Rattle.profile_run.specs.Program.{Program, Options}
use Rattle.profile_run.specs.Trace.{RunStep, steps_of}
use Rattle.profile_run.specs.inner.Standing.{ArePut, CanPut, Cuts, HasPut, IsCutAt, IsPutting, IsUncut, Plan, PutWants}
use Rattle.profile_run.specs.inner.Standing.{RefusedBy}
use Rattle.profile_run.specs.inner.Standing.{StandsAfter, calls_below, files_after, files_at}
use Rattle.profile_run.specs.declared.counting.Counting.{Counting}
use Rattle.profile_run.specs.declared.parts.Parts.{Parts}
use Rattle.profile_run.specs.declared.run_end.PartFile.{PartFile}
use Rattle.profile_run.specs.declared.run_fault.RunFault.{RunFault}
use Rattle.profile_run.proofs.PutLemmas.{wants_nothing}
use Rattle.profile_run.proofs.CallLemmas.{cut_at, may_cut}
use Rattle.profile_run.proofs.CutLemmas.{files_uncut, uncut}
use Rattle.profile_run.proofs.CutPartLemmas as parts
use Rattle.profile_run.proofs.EndingLemmas.{steps_are}

module _ {W : Type 0} (m : Meaning W) {guest : Program} {first : W} {past : List RunStep} {last : RunStep} {set : List FuncId}
    {noted : Noted} {machine : Machine} {costs : RunCosts} {r : Recording} {h : PartHead} {w : W}
    (u : IsUncut m guest first past last set noted machine costs r h w) where
  abbrev before : List Step
  before = steps_of past

  abbrev now : List Step
  now = steps_of (past ++ last ∷ [])

  -- only so many cuts count
  pub full : most_cuts < h.part → may_cut guest before ≡ false
  full more = by (length (cuts guest.syms guest.options.dump_points before).closed) u.number
    where
      by : (n : ℕ) → h.part ≡ n + 1 → nat_lt n most_cuts ≡ false
      by n e = grind (arith, nat_tests)

  pub room : h.part ≤ most_cuts → may_cut guest before ≡ true
  room few = by (length (cuts guest.syms guest.options.dump_points before).closed) u.number
    where
      by : (n : ℕ) → h.part ≡ n + 1 → nat_lt n most_cuts ≡ true
      by n e = grind (arith, nat_tests)

  so_many : machine.engine.kernel.guest.steps ≡ length before + 1
  so_many =
      steps_are guest (past ++ last ∷ []) machine u.counted.after.reached ∙ length-push past last
      ∙ ap (λ n. n + 1) (sym (length-map past (λ (x : RunStep). x.step)))

  -- the cut after the step, as the rule looks at it
  pub cut_is : {syms : SymbolMap} {opts : Options} → guest.syms ≡ syms → guest.options ≡ opts → (n : ℕ)
      → n ≡ machine.engine.kernel.guest.steps
      → cut_at guest before last.step ≡ cut_after syms opts.dump_points n last.step.on_stack
  cut_is {syms = syms} {opts = opts} symbols options n is =
      (λ i. cut_after (symbols i) (options i).dump_points (sym so_many i) last.step.on_stack)
      ∙ ap (λ k. cut_after syms opts.dump_points k last.step.on_stack) (sym is)

  pub noted_is : {syms : SymbolMap} → guest.syms ≡ syms → IsNotedOf syms set last.step.on_stack noted
  noted_is symbols = subst (λ syms. IsNotedOf syms set last.step.on_stack noted) symbols u.counted.noted

  pub put_as : {opts : Options} → guest.options ≡ opts → {old at : Shelf} {items : List PartFile}
      → HasPut opts.base (files_at m guest first before) old at items
      → HasPut guest.options.base (files_at m guest first before) old at items
  put_as options {old = old} {at = at} {items = items} put =
      subst (λ (o : Options). HasPut o.base (files_at m guest first before) old at items) (sym options) put

  -- ---- the parts of the segment that ends there

  abbrev made : ℕ
  made = machine.engine.kernel.guest.made

  -- what they are put of, into this folder
  abbrev pub plan : Shelf → Plan W
  plan old = parts.cut_plan m guest first past last set noted machine costs r h w u old

  abbrev head : Trigger → PartHead
  head trigger = record h { trigger = trigger }

  pub is_putting : (old : Shelf) (trigger : Trigger) → IsPutting m (plan old) 1 (head trigger) r w
  is_putting old trigger =
      parts.begins m guest first past last set noted machine costs r h w u old (head trigger)
      (record { same = λ part other thread. u.head.same part other thread })

  pub can_put : (old : Shelf) (trigger : Trigger) {fresh : W → SymbolMap → Type 0} {syms : SymbolMap} {opts : Options}
      → fresh first guest.syms → guest.syms ≡ syms → guest.options ≡ opts → KnowsPlaces syms
      → CanPut m fresh syms opts 1 (head trigger) r w
  can_put old trigger is_fresh symbols options knows_ = record {
    plan = plan old;
    is_fresh = is_fresh;
    symbols = symbols;
    options = options;
    knows = knows_;
    putting = is_putting old trigger;
  }

  module _ {old at : Shelf} {items : List PartFile}
      (put : HasPut guest.options.base (files_at m guest first before) old at items) where
    -- no cut stands there
    pub goes_on : (cut_at guest before last.step ≡ None) ⊎ (may_cut guest before ≡ false)
        → StandsAfter m guest first (past ++ last ∷ []) machine costs r h w
        × HasPut guest.options.base (files_at m guest first now) old at items
    goes_on why = (
      uncut m guest first past last set noted machine costs r h w u why,
      subst (λ fs. HasPut guest.options.base fs old at items)
          (sym (files_uncut m guest first past last set noted machine costs r h w u why)) put,
    )

    module _ (trigger : Trigger) (cut : cut_at guest before last.step ≡ Some trigger)
        (may : may_cut guest before ≡ true) where
      all_files : files_after m (plan old) (calls_below (plan old) h.part trigger (made + 1))
          ≡ files_at m guest first now
      all_files =
          parts.files_now m guest first past last set noted machine costs r h w u old h.part trigger cut may
          u.number

      ends : IsCutAt guest h.part now
      ends =
          parts.ends_there m guest first past last set noted machine costs r h w u old h.part trigger cut may
          u.number

      -- memory was wanting before a put
      pub wanting : IsCutAt guest h.part now
          × PutWants (files_at m guest first now) old at
      wanting = (
        ends,
        wants_nothing (files_at m guest first now) None old at
            (record {
              done = files_at m guest first before;
              front = record {
                rest = puts m guest.syms guest.options.base (after_calls m guest.syms first (plan old).before)
                    (calls_below (plan old) h.part trigger (made + 1));
                whole = sym all_files;
                follows = tt;
              };
              holds = put.files;
            })
            put.calls,
      )

      -- nothing is put yet
      pub have_put : {opts : Options} → guest.options ≡ opts
          → HasPut opts.base (files_after m (plan old) (calls_below (plan old) h.part trigger 1)) old at items
      have_put options =
          subst (λ (o : Options). HasPut o.base
          (files_after m (plan old) (calls_below (plan old) h.part trigger 1)) old at items)
          options
          (subst (λ cs. HasPut guest.options.base (files_after m (plan old) cs) old at items)
          (sym (parts.none_first m guest first past last set noted machine costs r h w u old h.part trigger))
          (subst (λ fs. HasPut guest.options.base fs old at items)
          (sym (append-nil (files_at m guest first before))) put))

      -- a put was refused
      pub refused : (faults : ℕ) (fault : RunFault) (new : Shelf) (now_faults : ℕ)
          → RefusedBy guest.options.base h.part
          (files_after m (plan old) (calls_below (plan old) h.part trigger (made + 1))) old faults fault new now_faults
          → IsCutAt guest h.part now
          × RefusedBy guest.options.base h.part (files_at m guest first now) old faults fault new now_faults
      refused faults fault new now_faults refusal = (
        ends,
        subst (λ fs. RefusedBy guest.options.base h.part fs old faults fault new now_faults) all_files refusal,
      )

      -- all parts are put
      pub done : (all : Parts) (s : Recording) (v : W) (new : Shelf)
          → ArePut m (plan old) h.part trigger (made + 1) all s v new
          → ((thread : ThreadNo) → knows s thread ≡ knows r thread) → books.live s ≡ books.live r
          → StandsAfter m guest first (past ++ last ∷ []) machine costs s
          (record all.head { part = all.head.part + 1 }) v
          × HasPut guest.options.base (files_at m guest first now) old new all.put.items
      done all s v new are same_known same_live =
          let next : PartHead = record all.head { part = all.head.part + 1 } in (
            parts.cut_stands m guest first past last set noted machine costs r h w u old h.part trigger cut may
                u.number all.head s v are.putting are.part are.trigger
                (λ thread known. u.counted.stepped thread (sym (same_known thread) ∙ known))
                (same_live ∙ u.counted.after.live) next
                (record { same = λ part other thread. are.putting.head.same part other thread })
                (ap (λ n. n + 1) are.part),
            subst (λ fs. HasPut guest.options.base fs old new all.put.items) all_files are.put,
          )

-- a fault that is answered on
pub answered : {W A : Type 0} (m : Meaning W) (guest : Program) (first : W) (past : List RunStep) (part : ℕ)
    (old : Shelf) (faults : ℕ) (result : Result A RunFault) (fault : RunFault) (c : Counting) (p : Parts) (w : W)
    (new : Shelf) (now_faults : ℕ)
    → IsErrAnd result (λ f. f ≡ fault)
    → IsCutAt guest part (steps_of past)
    × RefusedBy guest.options.base part (files_at m guest first (steps_of past)) old faults fault new now_faults
    → Cuts m guest first past part old faults result c p w new now_faults
answered m guest first past part old faults (Ok a) fault c p w new now_faults is cut = absurd is
answered m guest first past part old faults (Err f) fault c p w new now_faults is cut = (
  cut.0,
  subst (λ e. RefusedBy guest.options.base part (files_at m guest first (steps_of past)) old faults e new now_faults)
      (sym is) cut.1,
)
