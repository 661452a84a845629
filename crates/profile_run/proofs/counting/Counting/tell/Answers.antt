use Rattle.std.proofs.Common.{sym, subst, ap, ◌∙◌}
use Rattle.recorder.specs.Accounts.{account}
use Rattle.recorder.specs.Notes.{CanNote, noted_answer}
use Rattle.profile_run.proofs.Others.{units}
use Rattle.sym_map.specs.SymbolMap.{SymbolMap}
use Rattle.event_costs.specs.declared.numbers.FuncId.{FuncId}
use Rattle.profile_run.specs.Trace.{events_of}
use Rattle.profile_run.specs.inner.Standing.{IsNote}
use Rattle.event_costs.specs.Costs.{IsWhole}
use Rattle.profile_run.proofs.CountLemmas as counts
use Rattle.profile_run.proofs.counting.Counting.tell.Goals as goal
use Rattle.std.proofs.Common.{List, ℕ}

pub note_event-noted-requires-clause-known : goal.note_event-noted-requires-clause-known
note_event-noted-requires-clause-known g c =
    counts.known_own g.W.Watch.meaning c.requires.can.guest c.requires.can.first c.requires.can.past c.args.event.now
    c.args.self.now.machine c.requires.before c.args.self.now.recorder c.args.watch.now c.requires.can.made

pub note_event-noted-requires-clause-ready : goal.note_event-noted-requires-clause-ready
note_event-noted-requires-clause-ready g c =
    counts.ready_own g.W.Watch.meaning c.requires.can.guest c.requires.can.first c.requires.can.past c.args.event.now
    c.args.self.now.machine c.requires.before c.args.self.now.recorder c.args.watch.now c.requires.can.made

pub note_event-noted-requires-clause-can : goal.note_event-noted-requires-clause-can
note_event-noted-requires-clause-can g c =
    let guest = c.requires.can.guest in
    let P : SymbolMap → Type 0 = λ syms.
    CanNote syms c.args.event.now c.args.ones.now (account c.args.self.now.recorder c.args.event.now.thread) in
    subst P c.requires.can.symbols
    (counts.can_note g.W.Watch.meaning guest c.requires.can.first c.requires.can.past c.args.event.now
    c.args.self.now.machine c.requires.before c.args.self.now.recorder c.args.watch.now c.requires.can.made
    c.args.ones.now
    (c.requires.costed.ones guest.options.branch guest.options.shapes (events_of c.requires.can.past)
    c.requires.can.made.begun.after.costs) c.requires.can.long)

pub seen-requires : goal.seen-requires
seen-requires g c =
    let guest = c.requires.can.guest in
    let stand = c.requires.can.made.begun.after.costs in
    let told =
    counts.can_see g.W.Watch.meaning guest c.requires.can.first c.requires.can.past c.args.event.now
    c.args.self.now.machine c.requires.before c.args.self.now.recorder c.args.watch.now c.requires.can.made
    g.W.Watch.can_see g.W.Watch.can_write g.W.Watch.fresh g.met.W.Watch.lasts c.requires.can.is_fresh
    c.args.ones.now
    (c.requires.costed.is guest.options.branch guest.options.shapes (events_of c.requires.can.past) stand)
    (c.requires.costed.ones guest.options.branch guest.options.shapes (events_of c.requires.can.past) stand)
    c.requires.can.long in
    subst (λ (numbers : List ℕ). g.W.Watch.can_see c.args.watch.now c.args.event.now numbers c.last_wait.result
    c.last_woken.result.now c.args.syms.now) (sym c.cost-cost.ensures.cost)
    (subst (λ syms. g.W.Watch.can_see c.args.watch.now c.args.event.now c.args.ones.now c.last_wait.result
    c.last_woken.result.now syms) c.requires.can.symbols
    (subst (λ wt. g.W.Watch.can_see c.args.watch.now c.args.event.now c.args.ones.now wt c.last_woken.result.now
    guest.syms) (sym c.last_wait.ensures)
    (subst (λ wk. g.W.Watch.can_see c.args.watch.now c.args.event.now c.args.ones.now
    c.args.self.now.machine.wait wk guest.syms) (sym c.last_woken.ensures) told)))

pub returns-clause-counted : goal.returns-clause-counted
returns-clause-counted g c = λ before guest first past made costed_of same long.
    let stand = made.begun.after.costs in
    let cost = c.args.ones.now in
    let costed =
    costed_of.is guest.options.branch guest.options.shapes (events_of past) stand in
    let ones = costed_of.ones guest.options.branch guest.options.shapes (events_of past) stand in
    let r = c.args.self.now.recorder in
    let s = c.note_event-noted.new.self in
    let e = c.args.event.now in
    let note : IsNote guest.syms e cost r s =
    subst (λ syms. IsNote syms e cost r s) (sym same)
    (record {
      stands = c.note_event-noted.ensures.stands;
      bounds = λ steps within. c.note_event-noted.ensures.bounds steps (units cost ones) within;
      others = c.note_event-noted.ensures.others;
      known = c.note_event-noted.ensures.known;
      live = c.note_event-noted.ensures.live;
    }) in
    counts.counted g.W.Watch.meaning guest first past e c.args.self.now.machine before r
    c.args.watch.now made s c.args.self.now.costs c.args.rule.now.after c.note_event-noted.result
    c.seen.new.self cost note
    costed
    (costed_of.stands guest.options.branch guest.options.shapes (events_of past) stand)
    (c.note_event-noted.ensures.answer
    ∙ ap (λ (set : List FuncId). noted_answer c.args.syms.now set e (account r e.thread).frames) c.after_set.ensures
    ∙ ap (λ (syms : SymbolMap). noted_answer syms c.args.rule.now.after e (account r e.thread).frames) (sym same))
    (c.seen.ensures
    ∙ ap (λ (numbers : List ℕ). g.W.Watch.meaning.after_seen c.args.watch.now e numbers c.last_wait.result
    c.last_woken.result.now c.args.syms.now) c.cost-cost.ensures.cost
    ∙ ap (λ wt. g.W.Watch.meaning.after_seen c.args.watch.now e cost wt c.last_woken.result.now c.args.syms.now)
    c.last_wait.ensures
    ∙ ap (λ wk. g.W.Watch.meaning.after_seen c.args.watch.now e cost c.args.self.now.machine.wait wk
    c.args.syms.now) c.last_woken.ensures
    ∙ ap (λ (syms : SymbolMap). g.W.Watch.meaning.after_seen c.args.watch.now e cost c.args.self.now.machine.wait
    c.args.self.now.machine.woken syms) (sym same))
    (subst IsWhole (sym costed)
    (counts.cost_whole guest.options.branch guest.options.shapes (events_of past) e))
    ones long
