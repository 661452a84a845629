-- An instruction of one thread: what it leaves of the guest.
use Rattle.std.proofs.Common.{◌≡◌, ℕ, ◌+◌, ◌%◌, ◌<◌, List, length, map, get_or, Option, Some, refl, sym, ◌∙◌, ap, subst}
use Rattle.std.proofs.Common.{slice_index}
use Rattle.std.proofs.Math.ListN.{set}
use Rattle.std.proofs.Math.Seq.{map-set_same}
use Rattle.std.proofs.lemmas.List.{set-get_or}
use Rattle.std.specs.List.{slice_get}
use Rattle.event_costs.specs.declared.event.Regs.{Regs}
use Rattle.event_costs.specs.declared.event.Done.{Done}
use Rattle.rv_step.specs.declared.stepped.Stepped.{Stepped}
use Rattle.rv_step.specs.declared.stepped.Stepped.TheVariants as stepped
use Rattle.rv_step.specs.Effects.{step_of}
use Rattle.rv_step.specs.Forms as forms
use Rattle.rv_step.specs.Promises.{UnlessRetired}
use Rattle.guest_mem.specs.Memory.{Memory}
use Rattle.guest_load.specs.declared.thread.Thread.{Thread}
use Rattle.guest_load.specs.Guest.{Guest}
use Rattle.guest_load.specs.Lawful.{IsLawful, IsThread}
use Rattle.guest_sys.specs.declared.caller.Caller.{Caller}
use Rattle.guest_sys.specs.Common.{IsCaller}
use Rattle.guest_sys.proofs.GuestLemmas.{caller_lawful, lawful_with_caller}
use Rattle.guest_sys.proofs.RowLemmas.{some_at}
use Rattle.guest_sched.specs.Step.{guest_after, with_regs}
use Rattle.guest_sched.proofs.PlaceLemmas.{thread_number}
use Rattle.guest_sched.specs.inner.Stages.{IsExecuted, Leaves}

-- what holds of every guest, once a thread's registers, the memory and the number of steps have changed
pub lawful_executed : (g : Guest) (c : Caller) (regs : Regs) (m : Memory) (steps : ℕ) → IsLawful g → IsCaller g c
    → regs.pc % 4 ≡ 0 → slice_index regs.x 0 ≡ 0
    → IsLawful (record g { mem = m; threads = set g.threads c.place (with_regs c.thread regs); steps = steps })
lawful_executed g c regs m steps lawful is aligned zero =
    let before = caller_lawful g c lawful is in
    let after : IsThread g.made (with_regs c.thread regs)
    = record { numbered = before.numbered; given = before.given; aligned = aligned; zero = zero } in
    let all = lawful_with_caller g c (with_regs c.thread regs) lawful is refl after in
    record {
      read_within = all.read_within;
      made_few = all.made_few;
      few_live = all.few_live;
      rising = all.rising;
      each_thread = all.each_thread;
      break_grown = all.break_grown;
      break_low = all.break_low;
    }

-- the caller at a place
abbrev pub caller_with : ℕ → Thread → Caller
caller_with place t = record { place = place; thread = t }

pub caller_there : (g : Guest) (place : ℕ) (t : Thread) → place < length g.threads → t ≡ get_or g.threads place t
    → IsCaller g (caller_with place t)
caller_there g place t within is = sym (some_at g.threads place t within) ∙ ap (λ u. Some u) (sym is)

same_some : {X : Type 0} (x y : X) → Some x ≡ Some y → x ≡ y
same_some x y e = cc

-- there is one caller at a place
pub caller_same : (g : Guest) (place : ℕ) (t : Thread) (c : Caller) → IsCaller g (caller_with place t) → IsCaller g c
    → c.place ≡ place → caller_with place t ≡ c
caller_same g place t c is other at =
    let thread : t ≡ c.thread = same_some t c.thread (sym is ∙ ap (slice_get g.threads) (sym at) ∙ other) in
    λ i. record { place = sym at i; thread = thread i }

retired : (c : Caller) (g : Guest) (h : Option ℕ) (answer : Stepped) (done : Done) (regs : Regs) (m : Memory)
    (held : Option ℕ)
    → forms.outcome answer regs m held ≡ step_of (forms.hart_state c.thread.regs g.mem h) → answer ≡ stepped.Retired done
    → IsExecuted c g h answer
    (record g { mem = m; threads = set g.threads c.place (with_regs c.thread regs); steps = g.steps + 1 }) held
retired c g h answer done regs m held out is = record {
  answer_is = ap (λ (o : forms.Outcome). o.stepped) out;
  leaves =
      subst (λ (a : Stepped). Leaves c g h a (step_of (forms.hart_state c.thread.regs g.mem h)).after
      (guest_after g c (forms.hart_state regs m held)) held) (sym is)
      (ap (λ (o : forms.Outcome). guest_after g c o.after) out, ap (λ (o : forms.Outcome). o.after.held) out);
}

pub executes_retired : (g : Guest) (place : ℕ) (t : Thread) (h : Option ℕ) (answer : Stepped) (done : Done)
    (regs : Regs) (m : Memory) (held : Option ℕ)
    → place < length g.threads → t ≡ get_or g.threads place t
    → forms.outcome answer regs m held ≡ step_of (forms.hart_state t.regs g.mem h) → answer ≡ stepped.Retired done
    → (c : Caller) → IsCaller g c → c.place ≡ place
    → IsExecuted c g h answer
    (record g { mem = m; threads = set g.threads place (with_regs t regs); steps = g.steps + 1 }) held
executes_retired g place t h answer done regs m held within there out is c caller at =
    subst (λ (d : Caller). IsExecuted d g h answer
    (record g { mem = m; threads = set g.threads place (with_regs t regs); steps = g.steps + 1 }) held)
    (caller_same g place t c (caller_there g place t within there) caller at)
    (retired (caller_with place t) g h answer done regs m held out is)

-- an instruction that doesn't retire leaves the guest
abbrev same_guest : Guest → Memory → List Thread → Guest
same_guest g m ts = record g { mem = m; threads = ts }

stays : (c : Caller) (g : Guest) (h : Option ℕ) (answer : Stepped) (g' : Guest) (held : Option ℕ)
    → ((done : Done) → answer ≡ stepped.Retired done → ⊥)
    → UnlessRetired answer (g' ≡ g) → UnlessRetired answer (held ≡ h) → (after : forms.HartState)
    → Leaves c g h answer after g' held
stays c g h (stepped.Retired done) g' held differs guest hold after = absurd (differs done refl)
stays c g h stepped.Call g' held differs guest hold after = (guest, hold)
stays c g h (stepped.Trap signal) g' held differs guest hold after = (guest, hold)
stays c g h (stepped.Unknown word) g' held differs guest hold after = (guest, hold)

unless_both : {A B C : Type 0} (answer : Stepped) → (A → B → C) → UnlessRetired answer A → UnlessRetired answer B
    → UnlessRetired answer C
unless_both (stepped.Retired done) f a b = tt {0}
unless_both stepped.Call f a b = f a b
unless_both (stepped.Trap signal) f a b = f a b
unless_both (stepped.Unknown word) f a b = f a b

pub executes_nothing : (g : Guest) (place : ℕ) (t : Thread) (h : Option ℕ) (answer : Stepped) (regs : Regs) (m : Memory)
    (held : Option ℕ)
    → place < length g.threads → t ≡ get_or g.threads place t → forms.outcome answer regs m held
    ≡ step_of (forms.hart_state t.regs g.mem h) → ((done : Done) → answer ≡ stepped.Retired done → ⊥)
    → UnlessRetired answer (regs ≡ t.regs) → UnlessRetired answer (m ≡ g.mem) → UnlessRetired answer (held ≡ h)
    → (c : Caller) → IsCaller g c → c.place ≡ place
    → IsExecuted c g h answer (record g { mem = m; threads = set g.threads place (with_regs t regs) }) held
executes_nothing g place t h answer regs m held within there out differs registers memory hold c caller at =
    let same : regs ≡ t.regs → m ≡ g.mem → record g { mem = m; threads = set g.threads place (with_regs t regs) } ≡ g =
    λ e f. (λ i. same_guest g (f i) (set g.threads place (with_regs t (e i))))
    ∙ ap (same_guest g g.mem) (ap (set g.threads place) there ∙ set-get_or g.threads place t) in
    subst (λ (d : Caller). IsExecuted d g h answer
    (record g { mem = m; threads = set g.threads place (with_regs t regs) }) held)
    (caller_same g place t c (caller_there g place t within there) caller at)
    (record {
      answer_is = ap (λ (o : forms.Outcome). o.stepped) out;
      leaves = stays (caller_with place t) g h answer _ held differs (unless_both answer same registers memory) hold
          (step_of (forms.hart_state t.regs g.mem h)).after;
    })

-- no thread gets another number
pub same_numbers : (ts : List Thread) (place : ℕ) (t : Thread) (regs : Regs) → t ≡ get_or ts place t
    → map thread_number (set ts place (with_regs t regs)) ≡ map thread_number ts
same_numbers ts place t regs is = map-set_same thread_number ts place (with_regs t regs) t (ap thread_number is)
