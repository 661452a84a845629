-- The machine goes on until it has exited.
use Rattle.std.proofs.Common.{◌≡◌, ℕ, zero, suc, ◌+◌, ◌*◌, ◌%◌, ◌<◌, ◌≤◌, List, [], ◌∷◌, length, get_or, refl}
use Rattle.std.proofs.Common.{ap, ◌∙◌, arith, subst}
use Rattle.std.proofs.Common.{Option, Some, None, Ok, Err, inl, inr}
use Rattle.event_costs.specs.Runs.{IsTrace}
use Rattle.event_costs.specs.declared.outcome.End.TheVariants.{Exited}
use Rattle.elf_read.specs.Image.{image_of}
use Rattle.guest_load.specs.Arguments.{arguments_len, arguments_limit}
use Rattle.guest_load.specs.First.{guest_at_start}
use Rattle.guest_load.specs.declared.thread.Thread.{Thread}
use Rattle.guest_load.specs.Guest.{Guest}
use Rattle.guest_load.specs.Lawful.{IsLawful, IsThread}
use Rattle.guest_sched.specs.RunQueue.{RunQueue}
use Rattle.guest_sched.specs.Engine.{Engine, first_engine, runner}
use Rattle.guest_sched.specs.Machine.{Machine, new_machine, next, unless_given, with_machine}
use Rattle.guest_sched.specs.Step.{MachineStep, step, step_at}
use Rattle.demo_run.proofs.Others.{begins_times, first_queue}
use Rattle.demo_make.specs.Program.{demo, IsFileOf}
use Rattle.demo_run.proofs.Left.{all_left}
use Rattle.demo_run.proofs.Lives.{GoesOn, Leads, Lives, Main, Suits, bare, main_no, most_fails, ways_of}
use Rattle.demo_run.proofs.GoingLemmas.{steps}
use Rattle.demo_run.proofs.StartLemmas as start

-- ---- the machine as it is seen

abbrev machine_after : MachineStep → Engine → Machine
machine_after told after = record { engine = after; given = None; wait = told.wait; woken = told.woken }

next_is_step : (m : Machine) (told : MachineStep) (after : Engine) → m.given ≡ None → step m.engine ≡ Ok (told, after)
    → next m ≡ Ok (told, machine_after told after)
unfolding next
next_is_step m told after given is =
    ap (λ o. unless_given o (with_machine (step m.engine))) given ∙ ap with_machine is

exited_ends : (m : Machine) → m.given ≡ None → m.engine.exit ≡ Some 0 → next m ≡ Err (Exited 0)
unfolding next step
exited_ends m given exits =
    ap (λ o. unless_given o (with_machine (step m.engine))) given
    ∙ ap (λ o. with_machine (step_at m.engine o (runner m.engine))) exits

-- ---- the run

-- what is left of a run, where main has failed so often and so many steps are left
pub record Ends (m : Machine) (fails left : ℕ) : Type 0 where
  pub waits : ℕ
  pub few : waits ≤ 3
  pub trace : List MachineStep
  pub is : IsTrace next m trace (Exited 0)
  pub exits : is.last.engine.exit ≡ Some 0
  pub long : length trace + 9 * fails ≡ left + 9 * waits

few_fails : (lives : Lives) (main : Main) → Suits lives main → most_fails main ≤ 3
few_fails lives Main.finishes suits = omega arith
few_fails lives main suits = let lt = suits.0 in omega arith

module _ (size : ℕ) (some : 1 ≤ size) (most : size ≤ 100000) where
  one_step : (fails left : ℕ) (main : Main) (lives : Lives) (m : Machine) → m.given ≡ None
      → GoesOn size fails main left lives m.engine
      → ((l : Leads size fails main left lives m.engine)
      → Ends (machine_after l.told l.after) l.fails_then (all_left size (ways_of l.main_then l.left_then l.lives_then)))
      → Ends m fails (all_left size (ways_of main left lives))
  one_step fails left main lives m given is more = elim (steps size fails left main lives m.engine is some most) [
    | inl l ↦ (let rest = more l in record {
      waits = rest.waits;
      few = rest.few;
      trace = l.told ∷ rest.trace;
      is = record {
        last = rest.is.last;
        run = (machine_after l.told l.after, next_is_step m l.told l.after given l.is, rest.is.run);
        stop = rest.is.stop;
      };
      exits = rest.exits;
      long = omega arith;
    })
    | inr f ↦ record {
      waits = fails;
      few = omega (arith, is.few, few_fails lives main is.suits);
      trace = f.told ∷ [];
      is = record {
        last = machine_after f.told f.after;
        run = (machine_after f.told f.after, next_is_step m f.told f.after given f.is, refl);
        stop = exited_ends (machine_after f.told f.after) refl f.exits;
      };
      exits = f.exits;
      long = omega arith;
    }
  ]

  runs_out : (n fails left : ℕ) (main : Main) (lives : Lives) (m : Machine) → m.given ≡ None
      → GoesOn size fails main left lives m.engine → all_left size (ways_of main left lives) + 27 ≤ n + 9 * fails
      → Ends m fails (all_left size (ways_of main left lives))
  runs_out zero fails left main lives m given is enough =
      one_step fails left main lives m given is (λ l.
      let less = l.less in
      let few = l.goes_on.few in
      absurd (omega (arith, is.few, few_fails lives main is.suits, few_fails l.lives_then l.main_then l.goes_on.suits)))
  runs_out (suc n) fails left main lives m given is enough =
      one_step fails left main lives m given is (λ l.
      let less = l.less in
      runs_out n l.fails_then l.left_then l.main_then l.lives_then (machine_after l.told l.after) refl l.goes_on
      (omega arith))

-- ---- from the first machine on

module _ (size quantum : ℕ) (seed : Option ℕ) (file input : List ℕ) (args : List (List ℕ)) (some : 1 ≤ size)
    (most : size ≤ 100000) (is : IsFileOf (demo size) file) (short : arguments_len args ≤ arguments_limit) where
  abbrev guest : Guest
  guest = guest_at_start (image_of file) args input

  abbrev line : RunQueue
  line = first_queue guest.threads quantum seed

  lawful : IsLawful (bare guest)
  lawful = record {
    read_within = omega arith;
    made_few = omega arith;
    few_live = omega arith;
    rising = λ k lt. absurd (omega arith);
    each_thread = first_thread;
    break_grown = omega arith;
    break_low = omega arith;
  }
    where
      first_thread : (k : ℕ) (d : Thread) → k < 1 → IsThread 1 (get_or guest.threads k d)
      first_thread zero d lt = record {
        numbered = omega arith;
        given = omega arith;
        aligned = ap (λ pc. pc % 4) is.entry;
        zero = refl;
      }
      first_thread (suc k) d lt = absurd (omega arith)

  first_goes_on : GoesOn size 0 (Main.makes 0) 8 [] (first_engine guest quantum seed)
  unfolding first_engine
  first_goes_on = record {
    under_way = start.begins size file args most is short input quantum seed;
    suits = (omega arith, refl);
    few = omega arith;
    lawful = lawful;
    lively = λ t. omega (arith, begins_times t None line.ready line);
    queue_is = refl;
    main_ready = begins_times main_no None line.ready line;
    others_ready = λ t lives. absurd (lives refl);
  }

  pub ends : Ends (new_machine guest quantum seed) 0 (3788 * size + 65)
  ends =
      let count : all_left size (ways_of (Main.makes 0) 8 []) ≡ 3788 * size + 65 = omega arith in
      subst (Ends (new_machine guest quantum seed) 0) count
      (runs_out size some most (3788 * size + 92) 0 8 (Main.makes 0) [] (new_machine guest quantum seed) refl
      first_goes_on (omega arith))
