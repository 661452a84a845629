-- The last parts are put: the run is whole, or refused.
use Rattle.std.proofs.Common.{◌≡◌, ℕ, ◌+◌, ◌-◌, ◌<◌, ◌≤◌, inr, []}
use Rattle.std.proofs.lemmas.List.{append-nil}
use Rattle.std.proofs.Common.{Option, None, Some, Result, Ok, Err}
use Rattle.std.proofs.Common.{refl, ap, sym, subst, ◌∙◌, arith}
use Rattle.std.specs.Prelude.{IsErrAnd}
use Rattle.outside.specs.Outside.{Outside, Output, puts_of, shelf}
use Rattle.event_costs.specs.declared.outcome.End.{End}
use Rattle.cg_format.specs.declared.trigger.Trigger.TheVariants.{Termination}
use Rattle.sym_map.specs.SymbolMap.{SymbolMap}
use Rattle.cg_format.specs.declared.head.PartHead.{PartHead}
use Rattle.guest_sched.specs.Machine.{Machine}
use Rattle.part_dump.specs.Watching.{Meaning}
use Rattle.profile_run.specs.Program.{Program, Options}
use Rattle.profile_run.specs.Parts.{watched_parts}
use Rattle.profile_run.specs.Runs.{whole_output}
use Rattle.profile_run.specs.Trace.{steps_of}
use Rattle.profile_run.specs.inner.Standing.{Advances, ArePut, CanPut, Ending, Fails, Finished, Grows, HasPut, HasSent}
use Rattle.profile_run.specs.inner.Standing.{IsHead}
use Rattle.profile_run.specs.inner.Standing.{IsJob, IsPutting, Job, Plan}
use Rattle.profile_run.specs.inner.Standing.{RefusedBy, RunsToEnd, Standing, calls_below, files_after}
use Rattle.profile_run.specs.declared.counting.Counting.{Counting}
use Rattle.profile_run.specs.declared.parts.Parts.{Parts}
use Rattle.profile_run.specs.declared.running.Order.{Order}
use Rattle.profile_run.specs.declared.run_fault.RunFault.{RunFault}
use Rattle.profile_run.proofs.EndingLemmas.{files_are, last_begins, last_plan, nothing_put, steps_are, watched_all}
use Rattle.profile_run.proofs.RefusalLemmas.{Leads, grown, put_failed}
use Rattle.profile_run.proofs.OutputLemmas.{still_sent}

-- a refusal is handed on
pub refuses_run : {W : Type 0} (m : Meaning W) (job : Job W) (counting : Counting) (parts : Parts) (w : W)
    (now : Outside) (r : Result End RunFault) (f : RunFault) → IsErrAnd r (λ e. e ≡ f)
    → Fails m job f now × Grows job.old now
    → RunsToEnd m job r counting parts w now
refuses_run m job counting parts w now (Ok x) f is fails = absurd is
refuses_run m job counting parts w now (Err e) f is fails =
    (subst (λ g. Fails m job g now) (sym is) fails.0, fails.1)

-- a run stays within its budget
pub within : {W : Type 0} (m : Meaning W) (job : Job W) (counting : Counting) (parts : Parts) (w : W) (now : Outside)
    → Standing m job counting parts w now → counting.machine.engine.kernel.guest.steps ≤ job.guest.options.budget
within m job counting parts w now s =
    let are = steps_are job.guest s.past counting.machine s.after.after.reached in
    let few = s.after.after.few in
    omega (arith, are, few)

-- a step more leaves fewer
pub fewer_left : (budget steps more : ℕ) → more ≤ budget → steps + 1 ≤ more → budget - more < budget - steps
fewer_left budget steps more few is = omega arith

-- a step that ended the run
pub ends : {W : Type 0} (m : Meaning W) (job : Job W) (steps : ℕ) (over : Option End) (end : End) (counting : Counting)
    (parts : Parts) (w : W) (now : Outside) → over ≡ Some end
    → Advances {W = W} m job steps (Ok over) counting parts w now → Ending m job end counting parts w now
ends m job steps (Some given) end counting parts w now is ending =
    let same : given ≡ end = cc in
    subst (λ e. Ending m job e counting parts w now) same ending
ends m job steps None end counting parts w now is ending = absurd (cc)

-- a step after which the run goes on
pub goes_on : {W : Type 0} (m : Meaning W) (job : Job W) (steps : ℕ) (over : Option End) (counting : Counting)
    (parts : Parts) (w : W) (now : Outside) → over ≡ None
    → Advances {W = W} m job steps (Ok over) counting parts w now
    → Standing m job counting parts w now × (steps ≤ counting.machine.engine.kernel.guest.steps)
goes_on m job steps None counting parts w now is goes = goes
goes_on m job steps (Some given) counting parts w now is goes = absurd (cc)

module _ {W : Type 0} (m : Meaning W) {fresh : W → SymbolMap → Type 0} {job : Job W} {order : Order}
    (is : IsJob fresh job order) {end : End} {old : Counting} {parts : Parts} {w : W} {now : Outside}
    (e : Ending m job end old parts w now) where
  abbrev guest : Program
  guest = job.guest

  abbrev head : PartHead
  head = record parts.head { trigger = Termination }

  abbrev pub plan : Plan W
  plan = last_plan m guest job.first e.past e.stop old.machine old.recorder parts.head w e.is_over (shelf job.old)

  is_head : IsHead guest head
  is_head = record { same = λ part trigger thread. e.is_over.head.same part trigger thread }

  pub begins : IsPutting m plan 1 head old.recorder w
  begins =
      last_begins m guest job.first e.past e.stop old.machine old.recorder parts.head w e.is_over (shelf job.old) head
      is_head

  pub can_put : CanPut m fresh order.syms.now order.options.now 1 head old.recorder w
  can_put = record {
    plan = plan;
    is_fresh = is.is_fresh;
    symbols = is.symbols;
    options = is.options;
    knows = is.knows;
    putting = begins;
  }

  pub has_put : HasPut order.options.now.base (files_after m plan (calls_below plan head.part head.trigger 1)) (shelf job.old)
      (shelf now) parts.put.items
  has_put =
      subst (λ fs. HasPut order.options.now.base fs (shelf job.old) (shelf now) parts.put.items)
      (nothing_put m guest job.first e.past e.stop old.machine old.recorder parts.head w e.is_over (shelf job.old) head.part
      head.trigger)
      (subst (λ (o : Options). HasPut o.base (plan.put) (shelf job.old) (shelf now) parts.put.items) is.options e.put)

  all_files : files_after m plan (calls_below plan head.part head.trigger (old.machine.engine.kernel.guest.made + 1))
      ≡ (watched_parts m job.first guest).whole (steps_of e.past) e.stop.tried
  all_files =
      files_are m guest job.first e.past e.stop old.machine old.recorder parts.head w e.is_over (shelf job.old) head.part
      e.is_over.number

  abbrev all_put : Output
  all_put = whole_output (watched_parts m job.first guest) e.past e.stop

  -- after the puts
  module _ (new : Outside) (out : new.out ≡ now.out) (err : new.err ≡ now.err) (grows : Grows now new) where
    now_sent : HasSent e.past job.old new
    now_sent = still_sent e.past job.old now new out err e.sent

    now_grows : Grows job.old new
    now_grows = grown job.old now new e.grows grows

    pub finished : (c : Counting) (p : Parts) (v : W) → c.machine ≡ old.machine
        → ArePut m plan head.part head.trigger (old.machine.engine.kernel.guest.made + 1) p c.recorder v (shelf new)
        → Finished m job end c p v new × Grows job.old new
    finished c p v same put =
        let steps = ap (λ (x : Machine). x.engine.kernel.guest.steps) same in
        let made = ap (λ (x : Machine). x.engine.kernel.guest.made) same in
        let files =
        subst (λ fs. HasPut guest.options.base fs (shelf job.old) (shelf new) p.put.items) all_files put.put in (
          record {
            whole = record {
              output = all_put;
              runs = (
                is.fits,
                record {
                  trace = e.past;
                  stop = e.stop;
                  is = e.is_over.is;
                  end = sym e.end;
                  steps = steps ∙ e.is_over.steps;
                  threads = made ∙ e.is_over.threads;
                  parts = files.listed;
                  output = refl;
                },
              );
              leaves = record { files = files.files; out = now_sent.out; err = now_sent.err };
              log = record {
                calls = puts_of all_put.files;
                out = now_sent.out_told.0;
                err = now_sent.err_told.0;
              };
              does = record {
                trace = e.past;
                stop = e.stop;
                is = e.is_over.is;
                calls = refl;
                out = now_sent.out_told.1;
                err = now_sent.err_told.1;
              };
              tells = record { calls = files.calls; out = now_sent.out_told.2; err = now_sent.err_told.2 };
            };
            watched =
                watched_all m guest job.first e.past e.stop old.machine old.recorder parts.head w e.is_over (shelf job.old)
                p.head c.recorder v put.putting (put.part ∙ e.is_over.number) put.trigger;
          },
          now_grows,
        )

    leads : Leads m guest job.first e.past all_put.files
    leads = record {
      trace = e.past;
      stop = e.stop;
      is = e.is_over.is;
      later = [];
      steps = sym (append-nil e.past);
      more = [];
      whole = sym (append-nil all_put.files);
    }

    pub unfinished : (fault : RunFault)
        → RefusedBy guest.options.base head.part
        (files_after m plan (calls_below plan head.part head.trigger (old.machine.engine.kernel.guest.made + 1)))
        (shelf job.old) now.put_faults fault (shelf new) new.put_faults
        → Fails m job fault new × Grows job.old new
    unfinished fault refused = (
      put_failed m job is.fits e.past (record { last = e.is_over.is.last; run = e.is_over.is.run }) head.part all_put.files
          (inr (sym e.is_over.number, (e.stop, e.is_over.is))) leads fault now.put_faults new now_sent e.grows.puts
          (subst (λ fs. RefusedBy guest.options.base head.part fs (shelf job.old) now.put_faults fault (shelf new)
          new.put_faults) all_files refused),
      now_grows,
    )
