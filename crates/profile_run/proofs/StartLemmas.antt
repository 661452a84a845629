-- A run before its first step, and what stops it there.
use Rattle.std.proofs.Common.{◌≡◌, ℕ, ◌+◌, ◌^◌, ◌<◌, ◌≤◌, Bool, true, false, List, [], ◌++◌, length, min, Option, None}
use Rattle.std.proofs.Common.{Some}
use Rattle.std.proofs.Common.{option_map, refl, ap, sym, subst, ◌∙◌, arith, ◌-◌, ◌⊎◌, inl, inr, nat_le}
use Rattle.std.specs.List.{list_any}
use Rattle.std.proofs.lemmas.Bool.Decides.{nat_tests}
use Rattle.std.proofs.Math.Nat.{le-min}
use Rattle.outside.specs.Files.{Files}
use Rattle.outside.specs.Outside.{Leaves, Named, Outside, Tells, nothing, nothing_done, shelf}
use Rattle.profile_run.proofs.Others.{tells_nothing_more}
use Rattle.event_costs.specs.declared.numbers.ThreadNo.{ThreadNo}
use Rattle.sym_map.specs.SymbolMap.{SymbolMap}
use Rattle.cache_lru.specs.Costs.{StandForRun}
use Rattle.guest_load.specs.Arguments.{NeedsTooMany, arguments_len, arguments_limit}
use Rattle.guest_load.specs.First.{guest_at_start}
use Rattle.guest_load.specs.Lawful.{IsLawful}
use Rattle.guest_sched.specs.Machine.{Machine}
use Rattle.recorder.specs.Accounts.{Ledger, Recording, is_ledger_of, knows, live_in}
use Rattle.std.specs.Prelude.{sum_by}
use Rattle.part_dump.specs.Calls.{closed_calls, steps_calls}
use Rattle.part_dump.specs.Cuts.{cuts}
use Rattle.part_dump.specs.Steps.{Step, live}
use Rattle.part_dump.specs.Watched.{ready_pc}
use Rattle.part_dump.specs.Watching.{Meaning, puts}
use Rattle.profile_run.specs.Program.{Program, head_of_run}
use Rattle.profile_run.specs.Steps.{first_machine}
use Rattle.profile_run.specs.Parts.{calls_so_far}
use Rattle.recorder.specs.Rows.{rows_of}
use Rattle.profile_run.specs.inner.Standing.{AreAccounts, HasPut, IsAfter, IsHead, IsHeadOf, IsWatched, Job, Standing}
use Rattle.profile_run.specs.inner.Standing.{files_at}
use Rattle.profile_run.specs.declared.counting.Counting.{Counting}
use Rattle.profile_run.specs.declared.parts.Parts.{Parts}
use Rattle.profile_run.proofs.OutputLemmas.{nothing_more, wrote_nothing}

true_false : true ≡ false → ⊥
true_false e = cc

no_cuts : (guest : Program) → cuts guest.syms guest.options.dump_points [] ≡ record { closed = []; recent = [] }
unfolding cuts
no_cuts guest = refl

no_calls : (guest : Program) → calls_so_far guest [] ≡ []
no_calls guest =
    ap (λ s. closed_calls (rows_of guest.syms) (head_of_run guest) s.closed ++ steps_calls s.recent) (no_cuts guest)

no_files : {W : Type 0} (m : Meaning W) (guest : Program) (first : W) → files_at m guest first [] ≡ []
no_files m guest first = ap (puts m guest.syms guest.options.base first) (no_calls guest)

no_live : (syms : SymbolMap) → live syms [] ≡ 0
no_live syms = refl

not_known : (r : Recording) (thread : ThreadNo) → r.threads ≡ [] → knows r thread ≡ false
not_known r thread none = ap (list_any (is_ledger_of thread)) none

same_files : (old : Option Files) → old ≡ option_map (λ (files : Files). files) old
same_files None = refl
same_files (Some files) = refl

module _ {W : Type 0} (m : Meaning W) (guest : Program) (old : Outside) (first : W) (counting : Counting) (parts : Parts)
    (lawful : IsLawful (guest_at_start guest.image guest.args guest.input))
    (machine : counting.machine ≡ first_machine guest)
    (costs : StandForRun guest.options.branch guest.options.shapes counting.costs [])
    (none : counting.recorder.threads ≡ []) (head : IsHeadOf guest.args guest.options parts.head)
    (unput : parts.put.items ≡ []) where
  abbrev job : Job W
  job = record { guest = guest; old = old; first = first }

  is_head : IsHead guest parts.head
  is_head = record {
    same = λ part trigger thread i. record {
      thread = record { 0 = thread };
      part = part;
      cmd = head.cmd i;
      object = head.object i;
      i1 = head.i1 i;
      d1 = head.d1 i;
      ll = head.ll i;
      trigger = trigger;
      branch = head.branch i;
    };
  }

  no_accounts : AreAccounts guest.syms [] [] counting.recorder
  no_accounts = record {
    known = λ thread known. absurd (true_false (sym known ∙ not_known counting.recorder thread none));
    unknown = λ thread unknown. refl;
  }

  first_after : IsAfter guest [] [] counting.machine counting.costs counting.recorder
  first_after = record {
    run = (λ i. ((sym machine i).engine, []));
    reached = record { lawful = lawful; run = sym machine };
    given = ap (λ (x : Machine). x.given) machine;
    few = omega arith;
    costs = costs;
    accounts = no_accounts;
    made = λ thread more. refl;
    zero = refl;
    stacks = λ x there. absurd there;
    live = ap (sum_by (λ (k : Ledger). live_in k.account.frames)) none ∙ sym (no_live guest.syms);
    earlier = [];
    together = refl;
  }

  first_watched : IsWatched m guest first [] [] first
  first_watched = record { state = refl; watched = tt; steps = refl }

  pub first_stands : Standing m job counting parts first old
  first_stands = record {
    past = [];
    after = record {
      after =
          (let P : List Step → Type 0 =
          λ since. IsAfter guest [] since counting.machine counting.costs counting.recorder in
          subst P (sym (ap (λ s. s.recent) (no_cuts guest))) first_after);
      stepped = λ thread known. absurd (true_false (sym known ∙ not_known counting.recorder thread none));
      head = is_head;
      number = head.part ∙ sym (ap (λ s. length s.closed + 1) (no_cuts guest));
      quiet = λ thread quiet. ap (ready_pc thread) (no_calls guest);
      watch = subst (λ cs. IsWatched m guest first [] cs first) (sym (no_calls guest)) first_watched;
    };
    put =
        (let P : List Named → Type 0 = λ fs. HasPut guest.options.base fs (shelf old) (shelf old) parts.put.items in
        subst P (sym (no_files m guest first))
        (subst (λ ps. HasPut guest.options.base [] (shelf old) (shelf old) ps) (sym unput)
        (record { files = same_files old.files; calls = tells_nothing_more old.calls; listed = refl })));
    sent = record {
      out = nothing_more old.out.taken;
      err = nothing_more old.err.taken;
      out_told = wrote_nothing old.out;
      err_told = wrote_nothing old.err;
    };
    grows = record { loads = refl; puts = omega arith; out = omega arith; err = omega arith };
  }

-- nothing was put out
pub left_alone : (old : Outside) → Leaves old nothing old
left_alone old = record {
  files = same_files old.files;
  out = nothing_more old.out.taken;
  err = nothing_more old.err.taken;
}

-- and nothing is told
pub tells_nothing : (old : Outside) → Tells old nothing_done old
tells_nothing old = record {
  calls = tells_nothing_more old.calls;
  out = tells_nothing_more old.out.writes;
  err = tells_nothing_more old.err.writes;
}

-- arguments that don't need too many bytes are within their limit
pub few_arguments : (args : List (List ℕ)) → ((len : ℕ) → NeedsTooMany args len → ⊥)
    → arguments_len args ≤ arguments_limit
few_arguments args few = by (arguments_len args) (few (min (arguments_len args) (2 ^ 64 - 1)))
  where
    by : (n : ℕ) → ((min n (2 ^ 64 - 1) ≡ min n (2 ^ 64 - 1)) × (arguments_limit < min n (2 ^ 64 - 1)) → ⊥)
        → n ≤ arguments_limit
    by n none = elim (decide (nat_le n arguments_limit) refl) as (λ _. n ≤ arguments_limit) [
      | inl le ↦ le
      | inr more ↦
          (let k : arguments_limit + 1 ≤ min n (2 ^ 64 - 1) =
          le-min {k = arguments_limit + 1} {a = n} {b = 2 ^ 64 - 1} (omega (arith, more)) (omega arith) in
          absurd (none (refl, omega (arith, k))))
    ]
      where
        decide : (b : Bool) → nat_le n arguments_limit ≡ b → (n ≤ arguments_limit) ⊎ (arguments_limit < n)
        decide true e = inl (grind (arith, nat_tests))
        decide false e = inr (grind (arith, nat_tests))
