use Rattle.std.proofs.Common.{◌≡◌, Some, sym, subst, ap, ◌∙◌}
use Rattle.recorder.specs.Accounts.{account}
use Rattle.recorder.specs.Notes.{CanNote, noted_answer}
use Rattle.profile_run.proofs.Others.{units}
use Rattle.shadow_stack.specs.Frames.{stack}
use Rattle.shadow_stack.specs.Stacks.{top_of}
use Rattle.sym_map.specs.SymbolMap.{SymbolMap, place_of}
use Rattle.event_costs.specs.declared.numbers.FuncId.{FuncId}
use Rattle.profile_run.specs.Trace.{events_of}
use Rattle.profile_run.specs.inner.Standing.{IsCounted, IsNote}
use Rattle.event_costs.specs.Costs.{IsWhole}
use Rattle.profile_run.proofs.CountLemmas as counts
use Rattle.profile_run.proofs.counting.Counting.count.Goals as goal
use Rattle.std.proofs.Common.{List, ℕ}

pub plain_ones-requires-clause-fetch : goal.plain_ones-requires-clause-fetch
plain_ones-requires-clause-fetch g c =
    counts.fetched g.W.Watch.meaning c.requires.guest c.requires.first c.requires.past c.args.event.now
    c.args.self.now.machine c.args.self.now.costs c.args.self.now.recorder c.args.watch.now c.requires.made

pub plain_ones-requires-clause-data : goal.plain_ones-requires-clause-data
plain_ones-requires-clause-data g c =
    counts.referred g.W.Watch.meaning c.requires.guest c.requires.first c.requires.past c.args.event.now
    c.args.self.now.machine c.args.self.now.costs c.args.self.now.recorder c.args.watch.now c.requires.made

pub note_event-noted-requires-clause-known : goal.note_event-noted-requires-clause-known
note_event-noted-requires-clause-known g c =
    counts.known_own g.W.Watch.meaning c.requires.guest c.requires.first c.requires.past c.args.event.now
    c.args.self.now.machine c.args.self.now.costs c.args.self.now.recorder c.args.watch.now c.requires.made

pub note_event-noted-requires-clause-ready : goal.note_event-noted-requires-clause-ready
note_event-noted-requires-clause-ready g c =
    counts.ready_own g.W.Watch.meaning c.requires.guest c.requires.first c.requires.past c.args.event.now
    c.args.self.now.machine c.args.self.now.costs c.args.self.now.recorder c.args.watch.now c.requires.made

pub note_event-noted-requires-clause-can : goal.note_event-noted-requires-clause-can
note_event-noted-requires-clause-can g c =
    let guest = c.requires.guest in
    let P : SymbolMap → Type 0 = λ syms.
    CanNote syms c.args.event.now c.in-Some.ones (account c.args.self.now.recorder c.args.event.now.thread) in
    subst P c.requires.symbols
    (counts.can_note g.W.Watch.meaning guest c.requires.first c.requires.past c.args.event.now
    c.args.self.now.machine c.args.self.now.costs c.args.self.now.recorder c.args.watch.now c.requires.made
    c.in-Some.ones
    (c.in-Some.ensures.ones guest.options.branch guest.options.shapes (events_of c.requires.past)
    c.requires.made.begun.after.costs) c.requires.long)

pub seen-requires : goal.seen-requires
seen-requires g c =
    let guest = c.requires.guest in
    let stand = c.requires.made.begun.after.costs in
    let told =
    counts.can_see g.W.Watch.meaning guest c.requires.first c.requires.past c.args.event.now
    c.args.self.now.machine c.args.self.now.costs c.args.self.now.recorder c.args.watch.now c.requires.made
    g.W.Watch.can_see g.W.Watch.can_write g.W.Watch.fresh g.met.W.Watch.lasts c.requires.is_fresh
    c.in-Some.ones
    (c.in-Some.ensures.cost guest.options.branch guest.options.shapes (events_of c.requires.past) stand)
    (c.in-Some.ensures.ones guest.options.branch guest.options.shapes (events_of c.requires.past) stand)
    c.requires.long in
    subst (λ (numbers : List ℕ). g.W.Watch.can_see c.args.watch.now c.args.event.now numbers c.last_wait.result
    c.last_woken.result.now c.args.syms.now) (sym c.cost-numbers.ensures.cost)
    (subst (λ syms. g.W.Watch.can_see c.args.watch.now c.args.event.now c.in-Some.ones c.last_wait.result
    c.last_woken.result.now syms) c.requires.symbols
    (subst (λ wt. g.W.Watch.can_see c.args.watch.now c.args.event.now c.in-Some.ones wt c.last_woken.result.now
    guest.syms) (sym c.last_wait.ensures)
    (subst (λ wk. g.W.Watch.can_see c.args.watch.now c.args.event.now c.in-Some.ones
    c.args.self.now.machine.wait wk guest.syms) (sym c.last_woken.ensures) told)))

pub returns-in_default-clause-counted : goal.returns-in_default-clause-counted
returns-in_default-clause-counted g c =
    counts.by_other_costs g.W.Watch.meaning c.args.event.now c.args.self.now.machine c.args.self.now.costs
    c.plain_ones.new.self c.args.self.now.recorder c.args.watch.now c.args.syms.now
    (λ guest first past told. IsCounted g.W.Watch.meaning guest first past told c.args.rule.now.after
    c.count_shell-noted.result
    c.count_shell-noted.new.self.machine c.count_shell-noted.new.self.costs c.count_shell-noted.new.self.recorder
    c.count_shell-noted.new.watch)
    c.plain_ones.ensures.same c.count_shell-noted.ensures.counted

pub returns-then-not-is_plain-clause-counted : goal.returns-then-not-is_plain-clause-counted
returns-then-not-is_plain-clause-counted g c =
    counts.by_other_costs g.W.Watch.meaning c.args.event.now c.args.self.now.machine c.args.self.now.costs
    c.plain_ones.new.self c.args.self.now.recorder c.args.watch.now c.args.syms.now
    (λ guest first past told. IsCounted g.W.Watch.meaning guest first past told c.args.rule.now.after
    c.count_shell-noted-then-not-is_plain.result
    c.count_shell-noted-then-not-is_plain.new.self.machine c.count_shell-noted-then-not-is_plain.new.self.costs
    c.count_shell-noted-then-not-is_plain.new.self.recorder c.count_shell-noted-then-not-is_plain.new.watch)
    c.plain_ones.ensures.same c.count_shell-noted-then-not-is_plain.ensures.counted

pub returns-clause-counted : goal.returns-clause-counted
returns-clause-counted g c = λ guest first past made same long.
    let stand = made.begun.after.costs in
    let cost = c.in-Some.ones in
    let costed =
    c.in-Some.ensures.cost guest.options.branch guest.options.shapes (events_of past) stand in
    let ones = c.in-Some.ensures.ones guest.options.branch guest.options.shapes (events_of past) stand in
    let r = c.args.self.now.recorder in
    let s = c.note_event-noted.new.self in
    let e = c.args.event.now in
    let note : IsNote guest.syms e cost r s =
    subst (λ syms. IsNote syms e cost r s) (sym same)
    (record {
      stands = c.note_event-noted.ensures.stands;
      bounds = λ steps within. c.note_event-noted.ensures.bounds steps (units cost ones) within;
      others = c.note_event-noted.ensures.others;
      known = c.note_event-noted.ensures.known;
      live = c.note_event-noted.ensures.live;
    }) in
    counts.counted g.W.Watch.meaning guest first past e c.args.self.now.machine c.args.self.now.costs r
    c.args.watch.now made s c.plain_ones.new.self c.args.rule.now.after c.note_event-noted.result
    c.seen.new.self cost note
    costed
    (c.in-Some.ensures.stands guest.options.branch guest.options.shapes (events_of past) stand)
    (c.note_event-noted.ensures.answer
    ∙ ap (λ (set : List FuncId). noted_answer c.args.syms.now set e (account r e.thread).frames) c.after_set.ensures
    ∙ ap (λ (syms : SymbolMap). noted_answer syms c.args.rule.now.after e (account r e.thread).frames) (sym same))
    (c.seen.ensures
    ∙ ap (λ (numbers : List ℕ). g.W.Watch.meaning.after_seen c.args.watch.now e numbers c.last_wait.result
    c.last_woken.result.now c.args.syms.now) c.cost-numbers.ensures.cost
    ∙ ap (λ wt. g.W.Watch.meaning.after_seen c.args.watch.now e cost wt c.last_woken.result.now c.args.syms.now)
    c.last_wait.ensures
    ∙ ap (λ wk. g.W.Watch.meaning.after_seen c.args.watch.now e cost c.args.self.now.machine.wait wk
    c.args.syms.now) c.last_woken.ensures
    ∙ ap (λ (syms : SymbolMap). g.W.Watch.meaning.after_seen c.args.watch.now e cost c.args.self.now.machine.wait
    c.args.self.now.machine.woken syms) (sym same))
    (subst IsWhole (sym costed)
    (counts.cost_whole guest.options.branch guest.options.shapes (events_of past) e))
    ones long

pub returns-clause-plain : goal.returns-clause-plain
returns-clause-plain g c = λ _.
    let r = c.args.self.now.recorder in
    let e = c.args.event.now in
    let top =
    subst (λ (syms : SymbolMap). top_of (stack (account r e.thread).frames) ≡ Some (place_of syms e.done.pc).func)
    c.requires.symbols
    (counts.top g.W.Watch.meaning c.requires.guest c.requires.first c.requires.past e c.args.self.now.machine
    c.args.self.now.costs r c.args.watch.now c.requires.made) in
    let note = c.note_event-noted in
    counts.only_adds c.args.syms.now e c.in-Some.ones c.after_set.result.now note.result r note.new.self
    note.ensures.answer (c.is_plain.ensures.known c.if-not-is_plain.false) (c.is_plain.ensures.stays c.if-not-is_plain.false top)
    note.ensures.account note.ensures.lasting note.ensures.known note.ensures.live
