-- A job: the run is stopped before its first step, or begins, and comes to its end.
use Rattle.std.proofs.Common.{◌≡◌, ℕ, ◌^◌, ◌<◌, ◌≤◌, ◌↔◌, inr, List, [], Result, Ok, Err}
use Rattle.std.proofs.Common.{refl, ap, sym, subst, ◌∙◌, arith}
use Rattle.std.specs.Prelude.{IsErrAnd}
use Rattle.outside.specs.Outside.{Leaves, Outside, Tells, nothing, nothing_done}
use Rattle.event_costs.specs.declared.outcome.End.{End}
use Rattle.sym_map.specs.SymbolMap.{IsSound, SymbolMap}
use Rattle.elf_read.specs.Image.{Image}
use Rattle.cache_lru.specs.Costs.{StandForRun}
use Rattle.guest_mem.specs.Memory.{page_limit}
use Rattle.guest_load.specs.declared.error.GuestError.{GuestError}
use Rattle.guest_load.specs.declared.error.GuestError.TheVariants as guest
use Rattle.guest_load.specs.Arguments.{NeedsTooMany, arguments_len, arguments_limit}
use Rattle.guest_load.specs.First.{guest_at_start}
use Rattle.guest_load.specs.Lawful.{IsLawful}
use Rattle.guest_load.specs.Segments.{pages_of}
use Rattle.guest_sched.specs.Machine.{new_machine}
use Rattle.part_dump.specs.Rules.{IsRuleOf}
use Rattle.part_dump.specs.Watching.{Meaning}
use Rattle.profile_run.specs.Program.{Fits, Program, Options}
use Rattle.profile_run.specs.Parts.{watched_parts}
use Rattle.profile_run.specs.Runs.{Does, RunEnd, Runs}
use Rattle.profile_run.specs.inner.Begun.{Stops}
use Rattle.profile_run.specs.inner.Standing.{Grows, IsHeadOf, IsJob, Job, RunsJob, RunsToEnd, Standing}
use Rattle.profile_run.specs.declared.counting.Counting.{Counting}
use Rattle.profile_run.specs.declared.parts.Parts.{Parts}
use Rattle.profile_run.specs.declared.running.Order.{Order}
use Rattle.profile_run.specs.declared.run_fault.RunFault.{RunFault}
use Rattle.profile_run.specs.declared.run_fault.RunFault.TheVariants.{ArgsTooLong, GuestFull, OutFault, OutOfMemory}
use Rattle.profile_run.specs.declared.run_fault.RunFault.TheVariants.{PutFault}
use Rattle.profile_run.proofs.StartLemmas.{few_arguments, first_stands, left_alone, tells_nothing}
use Rattle.byte_text.specs.Memory.{memory}

no_growth : (a : Outside) → Grows a a
no_growth a = record { loads = refl; puts = omega arith; out = omega arith; err = omega arith }

module _ {W : Type 0} (m : Meaning W) (job : Job W) (image : Image) (syms : SymbolMap) (args : List (List ℕ))
    (input : List ℕ) (opts : Options)
    (is : job.guest ≡ record { image = image; syms = syms; args = args; input = input; options = opts }) where
  abbrev given : Program
  given = record { image = image; syms = syms; args = args; input = input; options = opts }

  -- nothing was put out
  module _ (w : W) (now : Outside) (same : job.old ≡ now) where
    ended : (fault : RunFault) → Runs (watched_parts m job.first job.guest) job.guest job.old (Err fault) nothing now
        → Does (watched_parts m job.first job.guest) job.guest (Err fault) nothing_done → RunsJob m job (Err fault) w now
    ended fault runs does = record {
      answers = record {
        output = nothing;
        runs = runs;
        leaves = subst (λ new. Leaves job.old nothing new) same (left_alone job.old);
        log = nothing_done;
        does = does;
        tells = subst (λ new. Tells job.old nothing_done new) same (tells_nothing job.old);
      };
      grows = subst (λ new. Grows job.old new) same (no_growth job.old);
      watched = tt;
    }

    pub stopped : (fault : RunFault) → Stops image args fault → RunsJob m job (Err fault) w now
    stopped (ArgsTooLong len) needs =
        ended (ArgsTooLong len) (subst (λ (g : Program). NeedsTooMany g.args len) (sym is) needs, refl) refl
    stopped GuestFull both =
        ended GuestFull (
          subst (λ (g : Program). arguments_len g.args ≤ arguments_limit) (sym is) both.0,
          subst (λ (g : Program). page_limit < pages_of g.image) (sym is) both.1,
          refl,
        ) refl
    stopped (OutOfMemory _) free = ended (OutOfMemory memory) (inr refl) (inr refl)
    stopped OutFault never = absurd never
    stopped (PutFault part thread) never = absurd never

    pub stops : (r : Result RunEnd RunFault) (fault : RunFault) → IsErrAnd r (λ e. e ≡ fault) → Stops image args fault
        → RunsJob m job r w now
    stops (Ok run) fault same why = absurd same
    stops (Err e) fault same why = subst (λ f. RunsJob m job (Err f) w now) (sym same) (stopped fault why)

  -- the run begins
  pub begins : (w : W) (now : Outside) → job.first ≡ w → job.old ≡ now → IsLawful (guest_at_start image args input)
      → (counting : Counting) (parts : Parts)
      → counting.machine ≡ new_machine (guest_at_start image args input) opts.quantum opts.seed
      → StandForRun opts.branch opts.shapes counting.costs [] → counting.recorder.threads ≡ []
      → IsHeadOf args opts parts.head → parts.put.items ≡ [] → Standing m job counting parts w now
  begins w now untold same lawful counting parts machine costs none head unput =
      let first : Standing m (record { guest = given; old = job.old; first = job.first }) counting parts job.first
      job.old =
      first_stands m given job.old job.first counting parts lawful machine costs none head unput in
      subst (λ v. Standing m job counting parts v now) untold
      (subst (λ o. Standing m job counting parts job.first o) same
      (subst (λ (g : Program). Standing m (record { guest = g; old = job.old; first = job.first }) counting parts
      job.first job.old) (sym is) first))

-- the code runs this job
pub is_job : {W : Type 0} (job : Job W) (image : Image) (args : List (List ℕ)) (input : List ℕ) (order : Order)
    → job.guest ≡ record { image = image; syms = order.syms.now; args = args; input = input; options = order.options.now }
    → (fresh : W → SymbolMap → Type 0) (w : W) → job.first ≡ w → fresh w order.syms.now
    → arguments_len args ≤ arguments_limit → pages_of image ≤ page_limit → order.options.now.budget ≤ 10 ^ 12
    → IsSound order.syms.now → IsRuleOf order.syms.now order.options.now.dump_points order.rule → IsJob fresh job order
is_job job image args input order is fresh w untold is_fresh few small long sound rule = record {
  is_fresh = subst (λ v. fresh v job.guest.syms) (sym untold)
      (subst (fresh w) (sym (ap (λ (g : Program). g.syms) is)) is_fresh);
  symbols = ap (λ (g : Program). g.syms) is;
  options = ap (λ (g : Program). g.options) is;
  knows = λ address. (sound.place_functions address, sound.place_files address);
  rule = rule;
  fits = subst Fits (sym is) (record { arguments = few; pages = small });
  long = long;
}

-- a run that ended or was stopped
pub answered : {W : Type 0} (m : Meaning W) (job : Job W) (counting : Counting) (parts : Parts) (w : W) (now : Outside)
    (end : Result End RunFault) (run : Result RunEnd RunFault) → RunsToEnd m job end counting parts w now
    → ((last : End) → end ≡ Ok last → run ≡ Ok (record {
      end = last;
      steps = counting.machine.engine.kernel.guest.steps;
      threads = counting.machine.engine.kernel.guest.made;
      parts = parts.put.items;
    }))
    → ((fault : RunFault) → end ≡ Err fault → run ≡ Err fault) → RunsJob m job run w now
answered m job counting parts w now (Ok last) run done ends stops =
    subst (λ (r : Result RunEnd RunFault). RunsJob m job r w now) (sym (ends last refl))
    (record { answers = done.0.whole; grows = done.1; watched = done.0.watched })
answered m job counting parts w now (Err fault) run done ends stops =
    subst (λ (r : Result RunEnd RunFault). RunsJob m job r w now) (sym (stops fault refl))
    (record { answers = done.0; grows = done.1; watched = tt })

-- ---- arguments within their limit

module _ {A : Type 0} (r : Result A GuestError) (args : List (List ℕ))
    (long : (len : ℕ) → (r ≡ Err (guest.ArgsTooLong len)) ↔ NeedsTooMany args len) where
  pub few_of_full : r ≡ Err guest.Full → arguments_len args ≤ arguments_limit
  few_of_full is = few_arguments args (λ len needs. differ len (sym is ∙ (long len).1 needs))
    where
      differ : (len : ℕ) → ◌≡◌ {A = Result A GuestError} (Err guest.Full) (Err (guest.ArgsTooLong len)) → ⊥
      differ len e = cc

  pub few_of_ok : (a : A) → r ≡ Ok a → arguments_len args ≤ arguments_limit
  few_of_ok a is = few_arguments args (λ len needs. differ len (sym is ∙ (long len).1 needs))
    where
      differ : (len : ℕ) → ◌≡◌ {A = Result A GuestError} (Ok a) (Err (guest.ArgsTooLong len)) → ⊥
      differ len e = cc
