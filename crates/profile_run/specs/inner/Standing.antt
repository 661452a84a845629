-- How a run stands after some steps.
use Rattle.std.specs.Prelude.{◌≡◌, ◌≢◌, ℕ, ◌+◌, ◌-◌, ◌^◌, ◌<◌, ◌≤◌, ◌⊎◌, Bool, true, false, List, [], ◌∷◌, ◌++◌, length}
use Rattle.std.specs.Prelude.{map, IfOk, Option, None, Some, option_map, Result, Ok, Err, flat_map, nat_lt}
use Rattle.std.specs.Prelude.{if◌then◌else◌, All, codes, slice_get, unwrap_or}
use Rattle.std.specs.List.{join_by}
use Rattle.outside.specs.Files.{Rose}
use Rattle.outside.specs.Outside.{Named, Outside, Shelf, Stream, puts_of, shelf, with_files}
use Rattle.outside.specs.Journal.{AreRefusedOf, AreWritten, Call as ToldCall, Put, TellsMore, TellsWrites, Wrote}
use Rattle.outside.specs.declared.folder.PutError.TheVariants as put
use Rattle.outside.specs.declared.sink.WriteError.{WriteError}
use Rattle.outside.specs.declared.sink.WriteError.TheVariants as write
use Rattle.event_costs.specs.Runs.{Run}
use Rattle.outside.specs.Write.{taken_more}
use Rattle.event_costs.specs.declared.event.Event.{Event}
use Rattle.event_costs.specs.declared.numbers.FuncId.{FuncId}
use Rattle.event_costs.specs.declared.numbers.ThreadNo.{ThreadNo}
use Rattle.event_costs.specs.declared.outcome.End.{End}
use Rattle.event_costs.specs.declared.outcome.End.TheVariants.{Exited}
use Rattle.event_costs.specs.declared.outcome.Noted.{Noted}
use Rattle.cg_format.specs.declared.trigger.Trigger.{Trigger}
use Rattle.cache_lru.specs.Costs.{RunCosts, Shapes, StandForRun, event_cost}
use Rattle.guest_load.specs.First.{guest_at_start}
use Rattle.sym_map.specs.SymbolMap.{SymbolMap}
use Rattle.shadow_stack.specs.Changes.{after}
use Rattle.shadow_stack.specs.Frames.{stack}
use Rattle.shadow_stack.specs.Stacks.{Stack, most_frames}
use Rattle.shadow_stack.specs.Traces as recorded
use Rattle.cg_format.specs.Rows.{below}
use Rattle.cg_format.specs.declared.head.PartHead.{PartHead}
use Rattle.guest_sched.specs.Laws.{IsReached}
use Rattle.guest_sched.specs.Machine.{Machine, next, running}
use Rattle.guest_sched.specs.Step.{MachineStep}
use Rattle.part_dump.specs.Calls.{Call, Readies, head_of, part_calls, step_calls, thread_calls, tried_calls}
use Rattle.part_dump.specs.Cuts.{cuts, every_cut}
use Rattle.part_dump.specs.Files.{RefusalLeaves, part_name}
use Rattle.part_dump.specs.Rules.{IsNotedOf, IsRuleOf}
use Rattle.part_dump.specs.Steps.{Step, live, steps_of_thread, events_on_stack_of, stack_at}
use Rattle.part_dump.specs.Watched.{AreWatched, ready_pc, steps_in}
use Rattle.part_dump.specs.Watching.{Meaning, after_calls, puts}
use Rattle.recorder.specs.Accounts.{IsReady, Recording, account, ledger, knows}
use Rattle.recorder.specs.Accounts as books
use Rattle.recorder.specs.Bounds.{SumsWithin}
use Rattle.recorder.specs.Laws.{IsIn}
use Rattle.recorder.specs.Notes.{first_account}
use Rattle.recorder.specs.Standing.{Stands, event_on_stack}
use Rattle.recorder.specs.Rows.{rows_of}
use Rattle.recorder.specs.inner.Known.{KnowsPlaces}
use Rattle.profile_run.specs.Program.{Fits, Program, Options, head_of_run}
use Rattle.profile_run.specs.Parts.{ArePartsOf, calls_of, calls_so_far, watched_parts}
use Rattle.profile_run.specs.Runs.{Answers, AreUnput, RunEnd, IsFrontOf}
use Rattle.profile_run.specs.Trace.{IsTraceOf, Stop, RunStep, bytes_to, end_before, next_step, piece_to}
use Rattle.profile_run.specs.Trace.{pieces, sent_bytes, start}
use Rattle.profile_run.specs.Trace.{events_of, steps_of}
use Rattle.profile_run.specs.declared.started_run.StartedRun.{StartedRun}
use Rattle.profile_run.specs.declared.counting.Counting.{Counting}
use Rattle.profile_run.specs.declared.parts.Parts.{Parts}
use Rattle.profile_run.specs.declared.run_end.PartFile.{PartFile}
use Rattle.profile_run.specs.declared.run_fault.RunFault.{RunFault}
use Rattle.profile_run.specs.declared.run_fault.RunFault.TheVariants.{ArgsTooLong, GuestFull, OutFault, OutOfMemory}
use Rattle.profile_run.specs.declared.run_fault.RunFault.TheVariants.{PutFault}
use Rattle.profile_run.specs.declared.running.Order.{Order}
use Rattle.profile_run.specs.declared.running.Stretch.{Stretch}
use Rattle.profile_run.specs.declared.running.Stretch.TheVariants.{Ends, Lasts}

-- what the machine told of a step
abbrev pub machine_step_of : RunStep → MachineStep
machine_step_of x = record {
  event = x.step.on_stack.event;
  output = x.output;
  wait = x.step.wait;
  woken = x.step.woken;
  threads = x.threads;
}

-- the guest has exited
abbrev pub is_exit : Option End → Bool
is_exit (Some (Exited code)) = true
is_exit _ = false

-- ---- the accounts

-- a thread's account after steps, of which these are the ones since the last cut; it began at a pc
pub record HasAccount (syms : SymbolMap) (past since : List Step) (r : Recording) (thread : ThreadNo) : Type 0 where
  pub first : ℕ
  pub stands : Stands syms (stack_at syms past thread.0 first) (events_on_stack_of thread.0 since) (account r thread)
  pub within : SumsWithin (length past) (account r thread)

pub record AreAccounts (syms : SymbolMap) (past since : List Step) (r : Recording) : Type 0 where
  pub known : (thread : ThreadNo) → knows r thread ≡ true → HasAccount syms past since r thread
  pub unknown : (thread : ThreadNo) → knows r thread ≡ false → steps_of_thread thread.0 past ≡ []

-- a step's stack is one that events lead to
abbrev pub HasStack : SymbolMap → Step → Type 0
HasStack syms x = (events : List Event) × (pc : ℕ) × (x.on_stack.stack ≡ recorded.stack_of syms events pc)

-- ---- the machine, the costs and the accounts

pub record IsAfter (guest : Program) (past : List RunStep) (since : List Step) (m : Machine) (coster : RunCosts)
    (r : Recording) : Type 0 where
  pub run : Run (next_step guest) (start guest) past (m.engine, past)
  pub reached : IsReached (guest_at_start guest.image guest.args guest.input) guest.options.quantum guest.options.seed
      (map machine_step_of past) m
  pub given : m.given ≡ None
  pub few : length past ≤ guest.options.budget
  pub costs : StandForRun guest.options.branch guest.options.shapes coster (events_of past)
  pub accounts : AreAccounts guest.syms (steps_of past) since r
  -- threads that weren't made have made no steps
  pub made : (thread : ℕ) → m.engine.kernel.guest.made < thread → steps_of_thread thread (steps_of past) ≡ []
  pub zero : steps_of_thread 0 (steps_of past) ≡ []
  pub stacks : (x : Step) → IsIn (steps_of past) x → HasStack guest.syms x
  pub live : books.live r ≡ live guest.syms (steps_of past)
  pub earlier : List Step
  pub together : steps_of past ≡ earlier ++ since

-- every thread that is known has made a step
abbrev pub HaveStepped : List Step → Recording → Type 0
HaveStepped past r = (thread : ThreadNo) → knows r thread ≡ true → steps_of_thread thread.0 past ≢ []

-- ---- the watch

pub record IsWatched {W : Type 0} (m : Meaning W) (guest : Program) (first : W) (past : List Step) (calls : List Call)
    (watch : W) : Type 0 where
  pub state : watch ≡ after_calls m guest.syms first calls
  pub watched : AreWatched guest.syms calls
  pub steps : steps_in calls ≡ past

-- ---- a step begins

-- what is kept of threads once one of them was made ready that begins at this pc, if it is new
pub record Prepares (syms : SymbolMap) (thread : ThreadNo) (pc : ℕ) (old new : Recording) : Type 0 where
  pub ready : IsReady new thread
  pub known : (other : ThreadNo) → knows new other ≡ true → (knows old other ≡ true) ⊎ (other.0 ≡ thread.0)
  pub still_known : (other : ThreadNo) → knows old other ≡ true → knows new other ≡ true
  pub own_known : knows new thread ≡ true
  pub others : (other : ThreadNo) → knows old other ≡ true → account new other ≡ account old other
  pub started : knows old thread ≡ false → account new thread ≡ first_account syms thread pc
  pub live : books.live new ≡ books.live old

pub record Begins {W : Type 0} (m : Meaning W) (syms : SymbolMap) (machine : Machine) (old new : Recording)
    (watch_old watch_new : W) : Type 0 where
  pub thread : ThreadNo
  pub pc : ℕ
  pub runs : running machine ≡ Some (thread, pc)
  pub prepares : Prepares syms thread pc old new
  pub watch : watch_new ≡ m.after_ready watch_old thread pc syms

-- the running thread is ready to be noted, and the watch was told
pub record HasBegun {W : Type 0} (m : Meaning W) (guest : Program) (first : W) (past : List RunStep) (machine : Machine)
    (costs : RunCosts) (r : Recording) (w : W) : Type 0 where
  pub thread : ThreadNo
  pub pc : ℕ
  pub runs : running machine ≡ Some (thread, pc)
  pub after : IsAfter guest past (cuts guest.syms guest.options.dump_points (steps_of past)).recent machine costs r
  pub others : (other : ThreadNo) → other.0 ≢ thread.0 → knows r other ≡ true → steps_of_thread other.0 (steps_of past) ≢ []
  pub known : knows r thread ≡ true
  pub ready : IsReady r thread
  pub stack : stack (account r thread).frames ≡ stack_at guest.syms (steps_of past) thread.0 pc
  pub goes : end_before guest machine.engine past ≡ None
  pub shallow : length (account r thread).frames ≤ most_frames
  pub room : books.live r < most_frames
  pub spare : length past < guest.options.budget
  pub quiet : steps_of_thread thread.0 (steps_of past) ≡ [] → ready_pc thread.0 (calls_so_far guest (steps_of past)) ≡ None
  pub watch : IsWatched m guest first (steps_of past)
      (calls_so_far guest (steps_of past) ++ Readies thread pc ∷ []) w

-- a step was tried and made
pub record IsMade {W : Type 0} (m : Meaning W) (guest : Program) (first : W) (past : List RunStep) (e : Event)
    (machine : Machine) (costs : RunCosts) (r : Recording) (watch : W) : Type 0 where
  pub before : Machine
  pub begun : HasBegun m guest first past before costs r watch
  pub outcome : MachineStep
  pub makes : next before ≡ Ok (outcome, machine)
  pub wait : outcome.wait ≡ machine.wait
  pub woken : outcome.woken ≡ machine.woken
  pub event : outcome.event ≡ e

-- a step can be counted: it was made in some run, of a watch that was fresh
pub record CanCount {W : Type 0} (m : Meaning W) (fresh : W → SymbolMap → Type 0) (syms : SymbolMap) (event : Event)
    (machine : Machine) (costs : RunCosts) (r : Recording) (watch : W) : Type 0 where
  pub guest : Program
  pub first : W
  pub is_fresh : fresh first guest.syms
  pub symbols : guest.syms ≡ syms
  pub long : guest.options.budget ≤ 10 ^ 12
  pub past : List RunStep
  pub made : IsMade m guest first past event machine costs r watch

-- A cost is that of an event where the costs before it stand for the events so far, and the ones after it then stand for
-- the events with it.
pub record IsCostOf (event : Event) (before after : RunCosts) (cost : List ℕ) : Type 0 where
  pub is : (branches : Bool) (shapes : Shapes) (events : List Event) → StandForRun branches shapes before events
      → cost ≡ event_cost branches shapes events event
  pub stands : (branches : Bool) (shapes : Shapes) (events : List Event) → StandForRun branches shapes before events
      → StandForRun branches shapes after (events ++ event ∷ [])
  pub ones : (branches : Bool) (shapes : Shapes) (events : List Event) → StandForRun branches shapes before events
      → All (λ n. n ≤ 1) cost

-- a step can be told of which the cost is known
pub record CanTell {W : Type 0} (m : Meaning W) (fresh : W → SymbolMap → Type 0) (syms : SymbolMap) (event : Event)
    (machine : Machine) (costs : RunCosts) (r : Recording) (watch : W) (cost : List ℕ) : Type 0 where
  pub before : RunCosts
  pub can : CanCount m fresh syms event machine before r watch
  pub costed : IsCostOf event before costs cost

-- what a note says of the accounts, for an event of a thread at a cost
pub record IsNote (syms : SymbolMap) (event : Event) (cost : List ℕ) (r s : Recording) : Type 0 where
  pub stands : (stack : Stack) (since : List recorded.EventOnStack) → Stands syms stack since (account r event.thread)
      → Stands syms (after syms stack event) (since ++ event_on_stack stack event cost ∷ []) (account s event.thread)
  pub bounds : (steps : ℕ) → SumsWithin steps (account r event.thread) → SumsWithin (steps + 1) (account s event.thread)
  pub others : (other : ThreadNo) → other.0 ≢ event.thread.0 → ledger s other ≡ ledger r other
  pub known : (other : ThreadNo) → knows s other ≡ knows r other
  pub live : books.live s + books.live_in (account r event.thread).frames
      ≡ books.live r + books.live_in (account s event.thread).frames

-- A step only added to numbers: its thread is as ready as it was, and no frame has come or gone.
pub record OnlyAdds (thread : ThreadNo) (noted : Noted) (old new : Recording) : Type 0 where
  pub none_pushed : noted.pushed ≡ None
  pub none_left : noted.left ≡ false
  pub ready : IsReady old thread → IsReady new thread
  pub known : knows new thread ≡ knows old thread
  pub frames : (account new thread).frames ≡ (account old thread).frames
  pub live : books.live new ≡ books.live old

-- it was counted, and the watch was told
pub record IsCounted {W : Type 0} (m : Meaning W) (guest : Program) (first : W) (past : List RunStep) (last : RunStep)
    (watched : List FuncId) (n : Noted) (machine : Machine) (costs : RunCosts) (r : Recording) (w : W) : Type 0 where
  pub after : IsAfter guest (past ++ last ∷ [])
      ((cuts guest.syms guest.options.dump_points (steps_of past)).recent ++ last.step ∷ []) machine costs r
  pub stepped : HaveStepped (steps_of (past ++ last ∷ [])) r
  pub noted : IsNotedOf guest.syms watched last.step.on_stack n
  pub watch : IsWatched m guest first (steps_of (past ++ last ∷ []))
      (calls_so_far guest (steps_of past) ++ step_calls last.step) w

-- ---- output

-- a front of bytes that is not the whole was taken by a sink, which then refused so
pub record TakesFront (error : WriteError) (bytes : List ℕ) (old new : Stream) : Type 0 where
  pub count : List ℕ
  pub front : IsFrontOf count bytes
  pub short : length count < length bytes
  pub taken : new.taken ≡ taken_more old.taken count
  pub writes : TellsWrites {U = Unit {0}} old.writes bytes (Err error) new.writes

-- all of them were taken
pub record TakesAll (bytes : List ℕ) (old new : Stream) : Type 0 where
  pub taken : new.taken ≡ taken_more old.taken bytes
  pub writes : TellsWrites {U = Unit {0}} old.writes bytes (Ok tt) new.writes

abbrev pub Takes : {A : Type 0} → List ℕ → Stream → Result A RunFault → Stream → Type 0
Takes bytes old (Ok _) new = TakesAll bytes old new
Takes bytes old (Err OutFault) new = Rose old.faults new.faults × TakesFront write.Failed bytes old new
Takes bytes old (Err (OutOfMemory memory)) new = TakesFront (write.OutOfMemory memory) bytes old new
Takes bytes old (Err GuestFull) new = ⊥
Takes bytes old (Err (ArgsTooLong len)) new = ⊥
Takes bytes old (Err (PutFault part thread)) new = ⊥

-- these pieces were written, each whole before the next
abbrev pub HasWritten : List (List ℕ) → Stream → Stream → Type 0
HasWritten pieces old new =
    (writes : List Wrote) × AreWritten pieces writes × TellsMore old.writes writes new.writes

-- the first of these, if there is one, was refused so
abbrev pub HasRefused : WriteError → List (List ℕ) → Stream → Stream → Type 0
HasRefused error pieces old new =
    (writes : List Wrote) × AreRefusedOf error pieces writes × TellsMore old.writes writes new.writes

-- a front of a step's output that is not the whole was taken by the sink of its descriptor, which then refused so
pub record SendsFront (error : WriteError) (descriptor : ℕ) (bytes : List ℕ) (o r new_out new_err : Stream)
    : Type 0 where
  pub count : List ℕ
  pub front : IsFrontOf count bytes
  pub short : length count < length bytes
  pub out : new_out.taken ≡ taken_more o.taken (bytes_to 1 (Some (descriptor, count)))
  pub err : new_err.taken ≡ taken_more r.taken (bytes_to 2 (Some (descriptor, count)))
  pub out_told : HasRefused error (piece_to 1 (Some (descriptor, bytes))) o new_out
  pub err_told : HasRefused error (piece_to 2 (Some (descriptor, bytes))) r new_err

-- all of it was taken
pub record SendsAll (output : Option (ℕ × List ℕ)) (o r new_out new_err : Stream) : Type 0 where
  pub out : new_out.taken ≡ taken_more o.taken (bytes_to 1 output)
  pub err : new_err.taken ≡ taken_more r.taken (bytes_to 2 output)
  pub out_told : HasWritten (piece_to 1 output) o new_out
  pub err_told : HasWritten (piece_to 2 output) r new_err

-- From what a step outputs, and the two sinks before and after: all of it was taken by the sink of its descriptor; or a
-- front of it was that is not the whole, and a fault comes with a sink's count.
abbrev pub Sends : {A : Type 0} → ℕ → List ℕ → Stream → Stream → Result A RunFault → Stream → Stream → Type 0
Sends descriptor bytes out err (Ok _) new_out new_err = SendsAll (Some (descriptor, bytes)) out err new_out new_err
Sends descriptor bytes out err (Err OutFault) new_out new_err =
    (((descriptor ≡ 1) × Rose out.faults new_out.faults) ⊎ ((descriptor ≡ 2) × Rose err.faults new_err.faults))
    × SendsFront write.Failed descriptor bytes out err new_out new_err
Sends descriptor bytes out err (Err (OutOfMemory memory)) new_out new_err =
    SendsFront (write.OutOfMemory memory) descriptor bytes out err new_out new_err
Sends descriptor bytes out err (Err GuestFull) new_out new_err = ⊥
Sends descriptor bytes out err (Err (ArgsTooLong len)) new_out new_err = ⊥
Sends descriptor bytes out err (Err (PutFault part thread)) new_out new_err = ⊥

-- ---- parts

-- what all parts of a run say
pub record IsHead (guest : Program) (head : PartHead) : Type 0 where
  pub same : (part : ℕ) (trigger : Trigger) (thread : ℕ)
      → head_of head part trigger thread ≡ head_of (head_of_run guest) part trigger thread

-- what the first head of a run is made of
pub record IsHeadOf (args : List (List ℕ)) (options : Options) (head : PartHead) : Type 0 where
  pub part : head.part ≡ 1
  pub cmd : head.cmd ≡ join_by (λ text. text) (codes " ") args
  pub object : head.object ≡ unwrap_or (slice_get args 0) []
  pub i1 : head.i1 ≡ options.shapes.i1
  pub d1 : head.d1 ≡ options.shapes.d1
  pub ll : head.ll ≡ options.shapes.ll
  pub branch : head.branch ≡ options.branch

-- What a segment's parts are put of: a run with the first state of its watch, all steps so far, the calls before the
-- parts, the steps of the segment, and the folder before the run with the files that were put since.
pub record Plan (W : Type 0) : Type 0 where
  pub guest : Program
  pub first : W
  pub past : List Step
  pub before : List Call
  pub segment : List Step
  pub folder : Shelf
  pub put : List Named

-- the calls for the threads below a number, and for all
abbrev pub calls_below : {W : Type 0} → Plan W → ℕ → Trigger → ℕ → List Call
calls_below plan part trigger n =
    flat_map (λ thread. thread_calls (rows_of plan.guest.syms) (head_of_run plan.guest) part trigger thread
    (events_on_stack_of thread plan.segment))
    (below n)

abbrev pub all_calls : {W : Type 0} → Plan W → ℕ → Trigger → List Call
all_calls plan part trigger =
    part_calls (rows_of plan.guest.syms) (head_of_run plan.guest) part plan.segment trigger

-- the files once these parts are put
abbrev pub files_after : {W : Type 0} → Meaning W → Plan W → List Call → List Named
files_after m plan calls =
    plan.put
    ++ puts m plan.guest.syms plan.guest.options.base (after_calls m plan.guest.syms plan.first plan.before) calls

-- a thread whose part was put has no steps since
abbrev pub since_of : ℕ → List Step → ℕ → List Step
since_of n segment thread = if nat_lt thread n then [] else segment

-- the parts of the threads below a number were put
pub record IsPutting {W : Type 0} (m : Meaning W) (plan : Plan W) (n : ℕ) (h : PartHead) (r : Recording)
    (w : W) : Type 0 where
  pub known : (thread : ThreadNo) → knows r thread ≡ true
      → HasAccount plan.guest.syms plan.past (since_of n plan.segment thread.0) r thread
  pub unknown : (thread : ThreadNo) → knows r thread ≡ false → steps_of_thread thread.0 plan.past ≡ []
  pub head : IsHead plan.guest h
  pub watch : IsWatched m plan.guest plan.first plan.past (plan.before ++ calls_below plan h.part h.trigger n)
      w
  pub stacks : (x : Step) → IsIn plan.segment x → HasStack plan.guest.syms x
  pub earlier : List Step
  pub together : plan.past ≡ earlier ++ plan.segment

-- these files were put, one after another, and this is the list of them
pub record HasPut (base : List ℕ) (all : List Named) (old now : Shelf) (put : List PartFile) : Type 0 where
  pub files : now.files ≡ option_map (with_files all) old.files
  pub calls : TellsMore old.calls (puts_of all) now.calls
  pub listed : ArePartsOf base all put

-- parts can be put, in a run with this map and these options, of a watch that was fresh
pub record CanPut {W : Type 0} (m : Meaning W) (fresh : W → SymbolMap → Type 0) (syms : SymbolMap) (opts : Options) (n : ℕ)
    (head : PartHead) (r : Recording) (watch : W) : Type 0 where
  pub plan : Plan W
  pub is_fresh : fresh plan.first plan.guest.syms
  pub symbols : plan.guest.syms ≡ syms
  pub options : plan.guest.options ≡ opts
  pub knows : KnowsPlaces syms
  pub putting : IsPutting m plan n head r watch

-- A front of the files stands, and the put of the next one failed, which has this name.
pub record PutFails (all : List Named) (name : List ℕ) (old new : Shelf) : Type 0 where
  pub refused : RefusalLeaves all (Some name) old.files new.files
  pub text : List ℕ
  pub behind : List Named
  pub next : refused.front.rest ≡ (name, text) ∷ behind
  pub calls : TellsMore old.calls (puts_of refused.done ++ Put name text (Err put.Failed) ∷ []) new.calls

-- A front of the files stands, and memory was wanting for the next one.
pub record PutWants (all : List Named) (old new : Shelf) : Type 0 where
  pub name : Option (List ℕ)
  pub refused : RefusalLeaves all name old.files new.files
  pub last : List ToldCall
  pub unput : AreUnput refused.front.rest last
  pub calls : TellsMore old.calls (puts_of refused.done ++ last) new.calls

-- From the folder and its count of faults before and after: a front of the files stands, and the put of the next one
-- was refused, or memory was wanting.
abbrev pub RefusedBy : List ℕ → ℕ → List Named → Shelf → ℕ → RunFault → Shelf → ℕ → Type 0
RefusedBy base part all old before (PutFault number thread) new now =
    (number ≡ part) × Rose before now × PutFails all (part_name base number thread.0) old new
RefusedBy base part all old before (OutOfMemory _) new now = PutWants all old new
RefusedBy base part all old before GuestFull new now = ⊥
RefusedBy base part all old before (ArgsTooLong len) new now = ⊥
RefusedBy base part all old before OutFault new now = ⊥

-- after the puts for the threads below a number
pub record ArePut {W : Type 0} (m : Meaning W) (plan : Plan W) (p : ℕ) (t : Trigger) (n : ℕ)
    (parts : Parts) (r : Recording) (watch : W) (now : Shelf) : Type 0 where
  pub putting : IsPutting m plan n parts.head r watch
  pub put : HasPut plan.guest.options.base (files_after m plan (calls_below plan p t n)) plan.folder now
      parts.put.items
  pub part : parts.head.part ≡ p
  pub trigger : parts.head.trigger ≡ t

abbrev pub PutsThreads : {W A : Type 0} → Meaning W → Plan W → ℕ → Trigger → ℕ → ℕ → Result A RunFault → Parts
    → Recording → W → Shelf → ℕ → Type 0
PutsThreads m plan part trigger n before (Ok _) parts r watch new now =
    ArePut m plan part trigger n parts r watch new
PutsThreads m plan part trigger n before (Err fault) parts r watch new now =
    RefusedBy plan.guest.options.base part (files_after m plan (calls_below plan part trigger n)) plan.folder before
    fault new now

-- ---- the whole

-- what a run is of, where the outside stood before it, and the first state of its watch
pub record Job (W : Type 0) : Type 0 where
  pub guest : Program
  pub old : Outside
  pub first : W

-- the code runs this job
pub record IsJob {W : Type 0} (fresh : W → SymbolMap → Type 0) (job : Job W) (order : Order) : Type 0 where
  pub is_fresh : fresh job.first job.guest.syms
  pub symbols : job.guest.syms ≡ order.syms.now
  pub options : job.guest.options ≡ order.options.now
  pub knows : KnowsPlaces order.syms.now
  pub rule : IsRuleOf order.syms.now order.options.now.dump_points order.rule
  pub fits : Fits job.guest
  pub long : order.options.now.budget ≤ 10 ^ 12

pub record Grows (old new : Outside) : Type 0 where
  pub loads : new.load_faults ≡ old.load_faults
  pub puts : old.put_faults ≤ new.put_faults
  pub out : old.out.faults ≤ new.out.faults
  pub err : old.err.faults ≤ new.err.faults

-- the bytes of these steps were written, piece by piece
pub record HasSent (written : List RunStep) (old now : Outside) : Type 0 where
  pub out : now.out.taken ≡ taken_more old.out.taken (sent_bytes 1 written)
  pub err : now.err.taken ≡ taken_more old.err.taken (sent_bytes 2 written)
  pub out_told : HasWritten (pieces 1 written) old.out now.out
  pub err_told : HasWritten (pieces 2 written) old.err now.err

abbrev pub files_at : {W : Type 0} → Meaning W → Program → W → List Step → List Named
files_at m guest first steps = (watched_parts m first guest).at_cuts steps

-- between two steps, but for what was put out
pub record StandsAfter {W : Type 0} (m : Meaning W) (guest : Program) (first : W) (past : List RunStep)
    (machine : Machine) (costs : RunCosts) (r : Recording) (h : PartHead) (w : W) : Type 0 where
  pub after : IsAfter guest past (cuts guest.syms guest.options.dump_points (steps_of past)).recent machine costs r
  pub stepped : HaveStepped (steps_of past) r
  pub head : IsHead guest h
  pub number : h.part ≡ length (cuts guest.syms guest.options.dump_points (steps_of past)).closed + 1
  pub quiet : (thread : ℕ) → steps_of_thread thread (steps_of past) ≡ []
      → ready_pc thread (calls_so_far guest (steps_of past)) ≡ None
  pub watch : IsWatched m guest first (steps_of past) (calls_so_far guest (steps_of past)) w

-- after a step that was counted, before it is looked at whether the run is cut
pub record IsUncut {W : Type 0} (m : Meaning W) (guest : Program) (first : W) (past : List RunStep) (last : RunStep)
    (watched : List FuncId) (noted : Noted) (machine : Machine) (costs : RunCosts) (r : Recording) (h : PartHead)
    (watch : W) : Type 0 where
  pub counted : IsCounted m guest first past last watched noted machine costs r watch
  pub head : IsHead guest h
  pub number : h.part ≡ length (cuts guest.syms guest.options.dump_points (steps_of past)).closed + 1
  pub quiet : (thread : ℕ) → steps_of_thread thread (steps_of past) ≡ []
      → ready_pc thread (calls_so_far guest (steps_of past)) ≡ None

-- the run may be cut after a step: it is one of this order, of a watch that was fresh
pub record CanCut {W : Type 0} (m : Meaning W) (fresh : W → SymbolMap → Type 0) (order : Order) (noted : Noted)
    (begun : StartedRun) (watch : W) : Type 0 where
  pub guest : Program
  pub first : W
  pub is_fresh : fresh first guest.syms
  pub symbols : guest.syms ≡ order.syms.now
  pub options : guest.options ≡ order.options.now
  pub knows : KnowsPlaces order.syms.now
  pub past : List RunStep
  pub last : RunStep
  pub uncut : IsUncut m guest first past last order.rule.after noted begun.counting.machine begun.counting.costs
      begun.counting.recorder begun.parts.head watch

-- the parts of the last segment, where the steps end with it
pub record IsCutAt (guest : Program) (part : ℕ) (steps : List Step) : Type 0 where
  pub number : length (cuts guest.syms guest.options.dump_points steps).closed ≡ part
  pub ends : (cuts guest.syms guest.options.dump_points steps).recent ≡ []

abbrev pub Cuts : {W A : Type 0} → Meaning W → Program → W → List RunStep → ℕ → Shelf → ℕ → Result A RunFault
    → Counting → Parts → W → Shelf → ℕ → Type 0
Cuts m guest first past part old before (Ok _) counting parts watch new now =
    StandsAfter m guest first past counting.machine counting.costs counting.recorder parts.head watch
    × HasPut guest.options.base (files_at m guest first (steps_of past)) old new parts.put.items
Cuts m guest first past part old before (Err fault) counting parts watch new now =
    IsCutAt guest part (steps_of past)
    × RefusedBy guest.options.base part (files_at m guest first (steps_of past)) old before fault new now

-- The cut after a step, from what was so before it: what it answers and leaves, whichever run of this order stands there.
abbrev pub CutsAny : {W A : Type 0} → Meaning W → Order → Noted → StartedRun → W → Shelf → ℕ → Result A RunFault → StartedRun → W
    → Shelf → ℕ → Type 0
CutsAny {W = W} m order noted old watch at before answer begun new_watch new now =
    (guest : Program) (first : W) (past : List RunStep) (last : RunStep) (start : Shelf)
    → guest.syms ≡ order.syms.now → guest.options ≡ order.options.now
    → IsRuleOf order.syms.now order.options.now.dump_points order.rule
    → IsUncut m guest first past last order.rule.after noted old.counting.machine old.counting.costs
    old.counting.recorder old.parts.head watch
    → HasPut order.options.now.base (files_at m guest first (steps_of past)) start at old.parts.put.items
    → Cuts m guest first (past ++ last ∷ []) old.parts.head.part start before answer begun.counting begun.parts
    new_watch new now

-- between two steps
pub record Standing {W : Type 0} (m : Meaning W) (job : Job W) (counting : Counting) (parts : Parts) (watch : W)
    (now : Outside) : Type 0 where
  pub past : List RunStep
  pub after : StandsAfter m job.guest job.first past counting.machine counting.costs counting.recorder parts.head watch
  pub put : HasPut job.guest.options.base (files_at m job.guest job.first (steps_of past)) (shelf job.old) (shelf now)
      parts.put.items
  pub sent : HasSent past job.old now
  pub grows : Grows job.old now

-- a refusal, with its cause and what it leaves
abbrev pub Fails : {W : Type 0} → Meaning W → Job W → RunFault → Outside → Type 0
Fails m job fault now = Answers (watched_parts m job.first job.guest) job.guest job.old (Err fault) now

-- no more step is made
pub record IsOver {W : Type 0} (m : Meaning W) (guest : Program) (first : W) (past : List RunStep) (stop : Stop)
    (machine : Machine) (r : Recording) (h : PartHead) (w : W) : Type 0 where
  pub is : IsTraceOf guest past stop
  pub threads : machine.engine.kernel.guest.made ≡ is.last.0.kernel.guest.made
  pub steps : machine.engine.kernel.guest.steps ≡ length past
  pub accounts : AreAccounts guest.syms (steps_of past) (cuts guest.syms guest.options.dump_points (steps_of past)).recent r
  pub made : (thread : ℕ) → machine.engine.kernel.guest.made < thread → steps_of_thread thread (steps_of past) ≡ []
  pub zero : steps_of_thread 0 (steps_of past) ≡ []
  pub stacks : (x : Step) → IsIn (steps_of past) x → HasStack guest.syms x
  pub earlier : List Step
  pub together : steps_of past ≡ earlier ++ (cuts guest.syms guest.options.dump_points (steps_of past)).recent
  pub head : IsHead guest h
  pub number : h.part ≡ length (cuts guest.syms guest.options.dump_points (steps_of past)).closed + 1
  pub watch : IsWatched m guest first (steps_of past)
      (calls_so_far guest (steps_of past) ++ tried_calls stop.tried) w

pub record Ending {W : Type 0} (m : Meaning W) (job : Job W) (given : End) (counting : Counting) (parts : Parts)
    (watch : W) (now : Outside) : Type 0 where
  pub past : List RunStep
  pub stop : Stop
  pub end : stop.end ≡ given
  pub is_over : IsOver m job.guest job.first past stop counting.machine counting.recorder parts.head watch
  pub put : HasPut job.guest.options.base (files_at m job.guest job.first (steps_of past)) (shelf job.old) (shelf now)
      parts.put.items
  pub sent : HasSent past job.old now
  pub grows : Grows job.old now

-- The step after these is being made: its thread has begun, and nothing of it was put out.
pub record IsStarted {W : Type 0} (m : Meaning W) (job : Job W) (counting : Counting) (parts : Parts) (watch : W)
    (now : Outside) : Type 0 where
  pub past : List RunStep
  pub begun : HasBegun m job.guest job.first past counting.machine counting.costs counting.recorder watch
  pub head : IsHead job.guest parts.head
  pub number : parts.head.part ≡ length (cuts job.guest.syms job.guest.options.dump_points (steps_of past)).closed + 1
  pub quiet : (thread : ℕ) → steps_of_thread thread (steps_of past) ≡ []
      → ready_pc thread (calls_so_far job.guest (steps_of past)) ≡ None
  pub put : HasPut job.guest.options.base (files_at m job.guest job.first (steps_of past)) (shelf job.old) (shelf now)
      parts.put.items
  pub sent : HasSent past job.old now
  pub grows : Grows job.old now

-- It was made and counted, and its bytes were written; but for its cut all is done.
pub record IsWritten {W : Type 0} (m : Meaning W) (job : Job W) (watched : List FuncId) (noted : Noted)
    (counting : Counting) (parts : Parts) (watch : W) (now : Outside) : Type 0 where
  pub past : List RunStep
  pub last : RunStep
  pub uncut : IsUncut m job.guest job.first past last watched noted counting.machine counting.costs counting.recorder
      parts.head watch
  pub put : HasPut job.guest.options.base (files_at m job.guest job.first (steps_of past)) (shelf job.old) (shelf now)
      parts.put.items
  pub sent : HasSent (past ++ last ∷ []) job.old now
  pub grows : Grows job.old now

-- what steps answer and leave: the run goes on and has made so many at least, or it is over, or it is refused
abbrev pub Advances : {W : Type 0} → Meaning W → Job W → ℕ → Result (Option End) RunFault → Counting → Parts → W
    → Outside → Type 0
Advances m job steps (Ok None) counting parts watch now =
    Standing m job counting parts watch now × (steps ≤ counting.machine.engine.kernel.guest.steps)
Advances m job steps (Ok (Some end)) counting parts watch now = Ending m job end counting parts watch now
Advances m job steps (Err fault) counting parts watch now = Fails m job fault now × Grows job.old now

-- ---- a stretch of steps

-- So many steps of the running thread may follow its next one before an end or a cut is looked for, if each only adds
-- to numbers: its turn and the budget leave one more at least, and after none of them a cut stands for its number.
pub record MayFollow (opts : Options) (machine : Machine) (more : ℕ) : Type 0 where
  pub turn : more ≤ machine.engine.run_queue.steps_left - 1
  pub budget : machine.engine.kernel.guest.steps + more < opts.budget
  pub uncut : (n : ℕ) → machine.engine.kernel.guest.steps < n → n ≤ machine.engine.kernel.guest.steps + more
      → every_cut opts.dump_points.every n ≡ None

-- what a step answers and leaves: its thread has begun the next one, and fewer may follow that; or the stretch ends
abbrev pub GoesOn : {W : Type 0} → Meaning W → Job W → Options → ℕ → ℕ → Result Stretch RunFault → Counting → Parts → W
    → Outside → Type 0
GoesOn m job opts more steps (Ok Lasts) counting parts watch now =
    IsStarted m job counting parts watch now × (1 ≤ more) × MayFollow opts counting.machine (more - 1)
    × (steps ≤ counting.machine.engine.kernel.guest.steps)
GoesOn m job opts more steps (Ok (Ends over)) counting parts watch now =
    Advances m job steps (Ok over) counting parts watch now
GoesOn m job opts more steps (Err fault) counting parts watch now = Fails m job fault now × Grows job.old now

-- all is done
pub record Finished {W : Type 0} (m : Meaning W) (job : Job W) (end : End) (counting : Counting) (parts : Parts)
    (watch : W) (now : Outside) : Type 0 where
  pub whole : Answers (watched_parts m job.first job.guest) job.guest job.old
      (Ok (record {
        end = end;
        steps = counting.machine.engine.kernel.guest.steps;
        threads = counting.machine.engine.kernel.guest.made;
        parts = parts.put.items;
      }))
      now
  pub watched : (trace : List RunStep) (stop : Stop) → IsTraceOf job.guest trace stop
      → watch ≡ after_calls m job.guest.syms job.first (calls_of job.guest (steps_of trace) stop.tried)

abbrev pub RunsToEnd : {W : Type 0} → Meaning W → Job W → Result End RunFault → Counting → Parts → W → Outside → Type 0
RunsToEnd m job (Ok end) counting parts watch now = Finished m job end counting parts watch now × Grows job.old now
RunsToEnd m job (Err fault) counting parts watch now = Fails m job fault now × Grows job.old now

-- what a whole run answers and leaves, and that the watch was told of all of it
pub record RunsJob {W : Type 0} (m : Meaning W) (job : Job W) (answer : Result RunEnd RunFault) (watch : W)
    (now : Outside) : Type 0 where
  pub answers : Answers (watched_parts m job.first job.guest) job.guest job.old answer now
  pub grows : Grows job.old now
  pub watched : IfOk answer (λ _. (trace : List RunStep) (stop : Stop) → IsTraceOf job.guest trace stop
      → watch ≡ after_calls m job.guest.syms job.first (calls_of job.guest (steps_of trace) stop.tried))
