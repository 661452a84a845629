-- One step of a run, with all that belongs to it.
use Rattle.std.proofs.Common.{◌≡◌, ℕ, ◌+◌, ◌-◌, ◌^◌, ◌<◌, ◌≤◌, inl, List, [], ◌∷◌, ◌++◌, length}
use Rattle.std.specs.Option.{option_or}
use Rattle.std.specs.List.{slice_get}
use Rattle.std.proofs.Common.{Bool, true, false, Option, None, Some, Result, Ok, Err}
use Rattle.std.proofs.Common.{refl, ap, sym, subst, ◌∙◌, arith}
use Rattle.std.specs.Prelude.{IsErrAnd, OnOk, is_some}
use Rattle.outside.specs.Outside.{Outside, shelf}
use Rattle.outside.specs.Write.{taken_more}
use Rattle.event_costs.specs.declared.event.Event.{Event}
use Rattle.event_costs.specs.declared.numbers.ThreadNo.{ThreadNo}
use Rattle.event_costs.specs.declared.outcome.End.{End}
use Rattle.event_costs.specs.declared.outcome.Noted.{Noted}
use Rattle.sym_map.specs.SymbolMap.{SymbolMap}
use Rattle.guest_sched.specs.Engine.{Engine}
use Rattle.guest_sched.specs.Machine.{Machine, ended, next, known_end, machine_step, with_given}
use Rattle.recorder.specs.Accounts.{Recording, account}
use Rattle.recorder.specs.Accounts as books
use Rattle.part_dump.specs.Steps.{live}
use Rattle.part_dump.specs.Watching.{Meaning}
use Rattle.shadow_stack.specs.Stacks.{most_frames}
use Rattle.profile_run.specs.Program.{Program, Options}
use Rattle.profile_run.specs.Trace.{Stop, RunStep, bytes_to, end_before}
use Rattle.profile_run.specs.Trace.{piece_to, pieces, sent_bytes, steps_of, run_step}
use Rattle.profile_run.specs.inner.Standing.{Advances, Begins, CanCount, CanCut, Ending, Fails, Grows, HasBegun, HasPut}
use Rattle.profile_run.specs.inner.Standing.{HasWritten, SendsAll}
use Rattle.profile_run.specs.inner.Standing.{HasSent, IsCounted, IsCutAt, IsJob, IsMade, IsOver, IsStarted, IsWritten}
use Rattle.profile_run.specs.inner.Standing.{Job}
use Rattle.profile_run.specs.inner.Standing.{RefusedBy, Sends, Standing, StandsAfter, files_at}
use Rattle.profile_run.specs.declared.counting.Counting.{Counting}
use Rattle.profile_run.specs.declared.parts.Parts.{Parts}
use Rattle.profile_run.specs.declared.running.Order.{Order}
use Rattle.profile_run.specs.declared.run_fault.RunFault.{RunFault}
use Rattle.profile_run.specs.declared.run_fault.RunFault.TheVariants.{OutOfMemory}
use Rattle.profile_run.proofs.Others.{length-push, none_of}
use Rattle.profile_run.proofs.OutputLemmas.{pieces-push, still_sent, wrote_on}
use Rattle.profile_run.proofs.BeginLemmas.{begun, or_none, some_room}
use Rattle.profile_run.proofs.EndLemmas.{ended_is}
use Rattle.profile_run.proofs.EndingLemmas.{not_over, over_before, over_tried, steps_are}
use Rattle.profile_run.proofs.RefusalLemmas.{grown, more_taken, no_memory, put_failed, sent-push, leads_on, write_failed}
use Rattle.byte_text.specs.Memory.{memory}
use Rattle.profile_run.proofs.TraceLemmas.{budget_end, exit_end, frames_end, runs_at, waiting_end}

-- no end stands before the step
open_over : (exit : Option ℕ) (ready : List ThreadNo) (a b : Option End)
    → option_or (exit_end exit) (option_or a (option_or b (waiting_end ready))) ≡ None → known_end exit (slice_get ready 0) ≡ None
open_over exit ready a b none =
    let one = or_none (exit_end exit) (option_or a (option_or b (waiting_end ready))) none in
    let two = or_none a (option_or b (waiting_end ready)) one.1 in
    let three = or_none b (waiting_end ready) two.1 in
    by exit ready one.0 three.1
  where
    by : (o : Option ℕ) (ts : List ThreadNo) → exit_end o ≡ None → waiting_end ts ≡ None → known_end o (slice_get ts 0) ≡ None
    by (Some code) ts e f = absurd (cc)
    by None [] e f = absurd (cc)
    by None (t ∷ ts) e f = refl

-- few frames are live
few_frames : (guest : Program) (m : Engine) (past : List RunStep) → end_before guest m past ≡ None
    → live guest.syms (steps_of past) < most_frames
few_frames guest m past none =
    let one = or_none (exit_end m.exit) _ none in
    let two = or_none (budget_end guest.options.budget (length past)) _ one.1 in
    some_room (live guest.syms (steps_of past))
    (or_none (frames_end (live guest.syms (steps_of past))) (waiting_end m.run_queue.ready) two.1).0

-- what an answer that isn't an error promises
pub on_unless : {A E : Type 0} (P : Type 0) (r : Result A E) → ((e : E) → r ≡ Err e → ⊥) → OnOk r P → P
on_unless P (Ok a) none on = on
on_unless P (Err e) none on = absurd (none e refl)

-- a refusal is handed on
pub refuses : {W : Type 0} (m : Meaning W) (job : Job W) (steps : ℕ) (counting : Counting) (parts : Parts) (w : W)
    (now : Outside) (r : Result (Option End) RunFault) (f : RunFault) → IsErrAnd r (λ e. e ≡ f)
    → Fails m job f now × Grows job.old now
    → Advances m job steps r counting parts w now
refuses m job steps counting parts w now (Ok x) f is fails = absurd is
refuses m job steps counting parts w now (Err e) f is fails =
    (subst (λ g. Fails m job g now) (sym is) fails.0, fails.1)

pub same_count : (n : ℕ) → n ≤ n
same_count n = omega arith

-- as many steps are no fewer
pub no_fewer : (now steps : ℕ) → now ≡ steps → steps ≤ now
no_fewer now steps same = omega (arith, same)

-- at least as many steps
pub advances_past : {W : Type 0} (m : Meaning W) (job : Job W) (a b : ℕ) → a ≤ b → (r : Result (Option End) RunFault)
    (counting : Counting) (parts : Parts) (w : W) (now : Outside) → Advances m job b r counting parts w now
    → Advances m job a r counting parts w now
advances_past m job a b le (Ok None) counting parts w now is = (is.0, at_least a b _ le is.1)
  where
    at_least : (a b c : ℕ) → a ≤ b → b ≤ c → a ≤ c
    at_least a b c le more = omega (arith, le, more)
advances_past m job a b le (Ok (Some end)) counting parts w now is = is
advances_past m job a b le (Err fault) counting parts w now is = is

-- as many steps
pub advances_as : {W : Type 0} (m : Meaning W) (job : Job W) (a b : ℕ) → a ≡ b → (r : Result (Option End) RunFault)
    (counting : Counting) (parts : Parts) (w : W) (now : Outside) → Advances m job a r counting parts w now
    → Advances m job b r counting parts w now
advances_as m job a b same r counting parts w now is = subst (λ n. Advances m job n r counting parts w now) same is

module _ {W : Type 0} (m : Meaning W) {fresh : W → SymbolMap → Type 0} {job : Job W} {order : Order}
    (is : IsJob fresh job order) {old : Counting} {parts : Parts} {w : W} {now : Outside}
    (s : Standing m job old parts w now) where
  abbrev guest : Program
  guest = job.guest

  -- the code looks for the end that stands
  pub looked : (budget : ℕ) → budget ≡ order.options.now.budget → (e : Option End)
      → (old.machine.given ≡ None → e ≡ option_or (exit_end old.machine.engine.exit)
      (option_or (budget_end budget old.machine.engine.kernel.guest.steps)
      (option_or (frames_end (books.live old.recorder)) (waiting_end old.machine.engine.run_queue.ready))))
      → end_before guest old.machine.engine s.past ≡ e
  looked budget same e found =
      sym (found s.after.after.given
      ∙ ap (λ n. option_or (exit_end old.machine.engine.exit)
      (option_or (budget_end n old.machine.engine.kernel.guest.steps)
      (option_or (frames_end (books.live old.recorder)) (waiting_end old.machine.engine.run_queue.ready))))
      (same ∙ ap (λ (o : Options). o.budget) (sym is.options))
      ∙ ap (λ n. option_or (exit_end old.machine.engine.exit)
      (option_or (budget_end guest.options.budget n)
      (option_or (frames_end (books.live old.recorder)) (waiting_end old.machine.engine.run_queue.ready))))
      (steps_are guest s.past old.machine s.after.after.reached)
      ∙ ap (λ n. option_or (exit_end old.machine.engine.exit)
      (option_or (budget_end guest.options.budget (length s.past))
      (option_or (frames_end n) (waiting_end old.machine.engine.run_queue.ready)))) s.after.after.live)

  -- an end stands before the step
  pub ends_before : (end : End) → end_before guest old.machine.engine s.past ≡ Some end → Ending m job end old parts w now
  ends_before end found = record {
    past = s.past;
    stop = record { end = end; tried = None };
    end = refl;
    is_over =
        over_before m guest job.first s.past old.machine old.costs old.recorder parts.head w s.after end found;
    put = s.put;
    sent = s.sent;
    grows = s.grows;
  }

  -- whether an end stands, as the code tests it
  module _ (budget : ℕ) (same : budget ≡ order.options.now.budget) (b : Bool)
      (over_is : old.machine.given ≡ None → b ≡ is_some (option_or (exit_end old.machine.engine.exit)
      (option_or (budget_end budget old.machine.engine.kernel.guest.steps)
      (option_or (frames_end (books.live old.recorder)) (waiting_end old.machine.engine.run_queue.ready))))) where
    pub not_ended : b ≡ false → end_before guest old.machine.engine s.past ≡ None
    not_ended no_ = looked budget same None (λ given. sym (none_of _ (sym (over_is given) ∙ no_)))

    pub ends_at : b ≡ true → (e : Option End)
        → (old.machine.given ≡ None → e ≡ option_or (exit_end old.machine.engine.exit)
        (option_or (budget_end budget old.machine.engine.kernel.guest.steps)
        (option_or (frames_end (books.live old.recorder)) (waiting_end old.machine.engine.run_queue.ready))))
        → (steps : ℕ) → Advances m job steps (Ok e) old parts w now
    ends_at yes_ e found steps =
        by e (looked budget same e found)
        (ap is_some (found s.after.after.given) ∙ sym (over_is s.after.after.given) ∙ yes_)
      where
        by : (o : Option End) → end_before guest old.machine.engine s.past ≡ o → is_some o ≡ true
            → Advances m job steps (Ok o) old parts w now
        by (Some end) is_ some = ends_before end is_
        by None is_ some = absurd (cc)

  -- memory was wanting before the step
  pub starves : Fails m job (OutOfMemory memory) now × Grows job.old now
  starves = (
    no_memory m job is.fits s.past old.machine.engine s.after.after.run s.after.after.few parts.put.items now s.put s.sent,
    s.grows,
  )

  pub runs_on : end_before guest old.machine.engine s.past ≡ None → ended old.machine ≡ None
  runs_on none =
      ended_is old.machine s.after.after.given
      ∙ open_over old.machine.engine.exit old.machine.engine.run_queue.ready (budget_end guest.options.budget (length s.past))
      (frames_end (live guest.syms (steps_of s.past))) none

  -- no stack is deeper than may be
  pub shallow_for : end_before guest old.machine.engine s.past ≡ None
      → ((thread : ThreadNo) → length (account old.recorder thread).frames ≤ books.live old.recorder + 1)
      → (thread : ThreadNo) → length (account old.recorder thread).frames ≤ most_frames
  shallow_for none shallow thread =
      let few = few_frames guest old.machine.engine s.past none in
      let same = s.after.after.live in
      let deep = shallow thread in
      omega (arith, few, same, deep)

  -- a step begins
  pub started : end_before guest old.machine.engine s.past ≡ None → (c : Counting) (v : W)
      → (begins : Begins m order.syms.now old.machine old.recorder c.recorder w v)
      → length (account old.recorder begins.thread).frames ≤ most_frames → c.machine ≡ old.machine
      → c.costs ≡ old.costs → IsStarted m job c parts v now
  started found c v begins shallow same_machine same_costs = record {
    past = s.past;
    begun =
        (let before =
        begun m guest job.first s.past old.machine old.costs old.recorder c.recorder w v s.after.after s.after.stepped
        (subst (λ sy. Begins m sy old.machine old.recorder c.recorder w v) (sym is.symbols) begins) s.after.quiet
        s.after.watch found shallow in
        subst (λ mc. HasBegun m guest job.first s.past mc c.costs c.recorder v) (sym same_machine)
        (subst (λ k. HasBegun m guest job.first s.past old.machine k c.recorder v) (sym same_costs) before));
    head = s.after.head;
    number = s.after.number;
    quiet = s.after.quiet;
    put = s.put;
    sent = s.sent;
    grows = s.grows;
  }

-- ---- a step is made

module _ {W : Type 0} (m : Meaning W) {fresh : W → SymbolMap → Type 0} {job : Job W} {order : Order}
    (is : IsJob fresh job order) where
  pub long : job.guest.options.budget ≤ 10 ^ 12
  long = subst (λ (o : Options). o.budget ≤ 10 ^ 12) (sym is.options) is.long

  module _ {old : Counting} {parts : Parts} {w : W} {now : Outside} (s : IsStarted m job old parts w now) where
    -- a run that isn't over has room for a step more
    pub few_steps : old.machine.engine.kernel.guest.steps < 2 ^ 64 - 1
    few_steps =
        let are = steps_are job.guest s.past old.machine s.begun.after.reached in
        let few = s.begun.after.few in
        let most = long in
        omega (arith, are, few, most)

    -- nor is it over
    pub runs_now : ended old.machine ≡ None
    runs_now = not_over old.machine (s.begun.thread, s.begun.pc) s.begun.runs

    -- memory was wanting for the step
    pub starves_in : Fails m job (OutOfMemory memory) now × Grows job.old now
    starves_in = (
      no_memory m job is.fits s.past old.machine.engine s.begun.after.run s.begun.after.few parts.put.items now s.put s.sent,
      s.grows,
    )

    -- the step was tried, and ends the run
    pub ends_tried : (end : End) (c : Counting) → next old.machine ≡ Err end → c.machine ≡ with_given end old.machine
        → c.recorder ≡ old.recorder → Ending m job end c parts w now
    ends_tried end c stops given same =
        let stop : Stop = record { end = end; tried = runs_at old.machine.engine } in
        let known_end =
        over_tried m job.guest job.first s.past old.machine old.costs old.recorder parts.head w s.begun end stops s.head
        s.number in
        record {
          past = s.past;
          stop = stop;
          end = refl;
          is_over =
              subst (λ mc. IsOver m job.guest job.first s.past stop mc c.recorder parts.head w) (sym given)
              (subst (λ r. IsOver m job.guest job.first s.past stop (with_given end old.machine) r parts.head w)
              (sym same) known_end);
          put = s.put;
          sent = s.sent;
          grows = s.grows;
        }

    -- the step was made
    module _ {event : Event} {output : Option (ℕ × List ℕ)} {after : Machine}
        (makes : next old.machine ≡ Ok (machine_step event output after, after)) where
      abbrev pub is_made : IsMade m job.guest job.first s.past event after old.costs old.recorder w
      is_made = record {
        before = old.machine;
        begun = s.begun;
        outcome = machine_step event output after;
        makes = makes;
        wait = refl;
        woken = refl;
        event = refl;
      }

      pub can_count : CanCount m fresh order.syms.now event after old.costs old.recorder w
      can_count = record {
        guest = job.guest;
        first = job.first;
        is_fresh = is.is_fresh;
        symbols = is.symbols;
        long = long;
        past = s.past;
        made = is_made;
      }

      abbrev pub last : RunStep
      last = run_step job.guest s.past (machine_step event output after)

      -- it was counted
      module _ (c : Counting) (v : W) (noted : Noted)
          (counted : IsCounted m job.guest job.first s.past last order.rule.after noted c.machine c.costs c.recorder v) where
        pub counts_on : c.machine.engine.kernel.guest.steps ≡ old.machine.engine.kernel.guest.steps + 1
        counts_on =
            let before = steps_are job.guest s.past old.machine s.begun.after.reached in
            let now_are = steps_are job.guest (s.past ++ last ∷ []) c.machine counted.after.reached in
            let more = length-push s.past last in
            omega (arith, before, now_are, more)

        pub can_cut : CanCut m fresh order noted (record { counting = c; parts = parts }) v
        can_cut = record {
          guest = job.guest;
          first = job.first;
          is_fresh = is.is_fresh;
          symbols = is.symbols;
          options = is.options;
          knows = is.knows;
          past = s.past;
          last = last;
          uncut = record { counted = counted; head = s.head; number = s.number; quiet = s.quiet };
        }

        -- its output could not be written
        pub unwritten : (A : Type 0) (to : ℕ) (bytes passed : List ℕ) (fault : RunFault) (new : Outside)
            → passed ≡ bytes → output ≡ Some (to, bytes) → shelf new ≡ shelf now → Grows now new
            → Sends {A = A} to passed now.out now.err (Err fault) new.out new.err
            → Fails m job fault new × Grows job.old new
        unwritten A to bytes passed fault new are wrote same grows sends = (
          write_failed m job is.fits s.past last c.machine.engine counted.after.run counted.after.few to bytes wrote
              parts.put.items now new s.put s.sent s.grows same A fault
              (subst (λ bs. Sends {A = A} to bs now.out now.err (Err fault) new.out new.err) are sends),
          grown job.old now new s.grows grows,
        )

        -- all but its cut is done
        abbrev pub is_written : (new : Outside) → shelf new ≡ shelf now
            → SendsAll output now.out now.err new.out new.err → Grows now new
            → IsWritten m job order.rule.after noted c parts v new
        is_written new same sends grows = record {
          past = s.past;
          last = last;
          uncut = record { counted = counted; head = s.head; number = s.number; quiet = s.quiet };
          put =
              subst (λ files. HasPut job.guest.options.base (files_at m job.guest job.first (steps_of s.past))
              (shelf job.old) files parts.put.items) (sym same) s.put;
          sent = record {
            out =
                sends.out ∙ ap (λ t. taken_more t (bytes_to 1 output)) s.sent.out
                ∙ more_taken job.old.out.taken (sent_bytes 1 s.past) (bytes_to 1 output)
                ∙ ap (taken_more job.old.out.taken) (sym (sent-push 1 s.past last));
            err =
                sends.err ∙ ap (λ t. taken_more t (bytes_to 2 output)) s.sent.err
                ∙ more_taken job.old.err.taken (sent_bytes 2 s.past) (bytes_to 2 output)
                ∙ ap (taken_more job.old.err.taken) (sym (sent-push 2 s.past last));
            out_told =
                subst (λ ps. HasWritten ps job.old.out new.out) (sym (pieces-push 1 s.past last))
                (wrote_on (pieces 1 s.past) (piece_to 1 output) job.old.out now.out new.out s.sent.out_told
                sends.out_told);
            err_told =
                subst (λ ps. HasWritten ps job.old.err new.err) (sym (pieces-push 2 s.past last))
                (wrote_on (pieces 2 s.past) (piece_to 2 output) job.old.err now.err new.err s.sent.err_told
                sends.err_told);
          };
          grows = grown job.old now new s.grows grows;
        }

  -- ---- the cut after it

  module _ {noted : Noted} {old : Counting} {parts : Parts} {w : W} {now : Outside}
      (s : IsWritten m job order.rule.after noted old parts w now) where
    pub has_put : HasPut order.options.now.base (files_at m job.guest job.first (steps_of s.past)) (shelf job.old) (shelf now)
        parts.put.items
    has_put =
        subst (λ (o : Options). HasPut o.base (files_at m job.guest job.first (steps_of s.past)) (shelf job.old)
        (shelf now) parts.put.items) is.options s.put

    abbrev past : List RunStep
    past = s.past ++ s.last ∷ []

    module _ (new : Outside) (out : new.out ≡ now.out) (err : new.err ≡ now.err) (grows : Grows now new) where
      abbrev now_sent : HasSent past job.old new
      now_sent = still_sent past job.old now new out err s.sent

      abbrev now_grows : Grows job.old new
      now_grows = grown job.old now new s.grows grows

      abbrev pub stands_on : (c : Counting) (p : Parts) (v : W)
          → StandsAfter m job.guest job.first past c.machine c.costs c.recorder p.head v
          → HasPut job.guest.options.base (files_at m job.guest job.first (steps_of past)) (shelf job.old) (shelf new)
          p.put.items
          → Standing m job c p v new
      stands_on c p v stands put =
          record { past = past; after = stands; put = put; sent = now_sent; grows = now_grows }

      pub uncuttable : (fault : RunFault) → IsCutAt job.guest parts.head.part (steps_of past)
          → RefusedBy job.guest.options.base parts.head.part (files_at m job.guest job.first (steps_of past))
          (shelf job.old) now.put_faults fault (shelf new) new.put_faults
          → Fails m job fault new × Grows job.old new
      uncuttable fault at refused =
          let counted = s.uncut.counted.after in (
            put_failed m job is.fits past (record { last = (old.machine.engine, past); run = counted.run }) parts.head.part
                (files_at m job.guest job.first (steps_of past)) (inl (at.number, at.ends))
                (leads_on m job.guest job.first past old.machine.engine counted.run counted.few)
                fault now.put_faults new now_sent s.grows.puts refused,
            now_grows,
          )
