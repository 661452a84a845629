use Rattle.std.proofs.Common.{◌+◌, [], ◌∷◌, ◌++◌, sym, subst, ◌∙◌}
use Rattle.std.proofs.Common.{arith}
use Rattle.guest_sched.specs.Machine.{Machine}
use Rattle.cache_lru.specs.Costs.{RunCosts}
use Rattle.outside.specs.Outside.{shelf_of}
use Rattle.profile_run.specs.inner.Standing.{StandsAfter}
use Rattle.profile_run.proofs.CutStepLemmas as step
use Rattle.profile_run.proofs.running.cut_cold.Goals as goal
use Rattle.profile_run.proofs.Others.{some_of}

pub returns-in-Err-clause-cuts : goal.returns-in-Err-clause-cuts
returns-in-Err-clause-cuts g c = λ guest first past last old symbols options rule uncut put.
    let m = g.W.Watch.meaning in
    let some = some_of _ (c.requires.cut _ _ last.step.on_stack rule (step.noted_is m uncut symbols)) in
    step.wanting m uncut (step.put_as m uncut options put) some.0
    (step.cut_is m uncut symbols options c.args.steps c.requires.made ∙ some.1)
    (step.room m uncut c.requires.few)

pub put_segment-requires : goal.put_segment-requires
put_segment-requires g c =
    let r = c.requires.can in
    step.can_put g.W.Watch.meaning r.uncut (shelf_of g.F.Folder c.args.folder.now) c.in-Ok.trigger r.is_fresh r.symbols
    r.options r.knows

pub returns-in_err-put_segment-clause-cuts : goal.returns-in_err-put_segment-clause-cuts
returns-in_err-put_segment-clause-cuts g c = λ guest first past last old symbols options rule uncut put.
    let m = g.W.Watch.meaning in
    let trigger = c.in-Ok.trigger in
    let is =
    step.cut_is m uncut symbols options c.args.steps c.requires.made
    ∙ c.in-Ok.ensures.cut _ _ last.step.on_stack rule (step.noted_is m uncut symbols) in
    let may = step.room m uncut c.requires.few in
    let have = step.put_as m uncut options put in
    let refusal =
    c.in_err-put_segment.ensures.puts (step.plan m uncut old) symbols options (step.is_putting m uncut old trigger)
    (step.have_put m uncut have trigger is may options) in
    step.answered m guest first (past ++ last ∷ []) c.args.begun.now.parts.head.part old
    (g.F.Folder.put_faults c.args.folder.now)
    c.from_residual.result c.in_err-put_segment.field-0.0 c.put_segment.new.begun.counting c.put_segment.new.begun.parts
    c.put_segment.new.watch (shelf_of g.F.Folder c.put_segment.new.folder)
    (g.F.Folder.put_faults c.put_segment.new.folder) c.from_residual.ensures.1
    (step.refused m uncut have trigger is may (g.F.Folder.put_faults c.args.folder.now) c.in_err-put_segment.field-0.0
    (shelf_of g.F.Folder c.put_segment.new.folder) (g.F.Folder.put_faults c.put_segment.new.folder) refusal)

pub overflow_add-begun : goal.overflow_add-begun
overflow_add-begun g c = omega (arith, c.requires.few, c.put_segment.ensures.part)

pub returns-clause-cuts : goal.returns-clause-cuts
returns-clause-cuts g c = λ guest first past last old symbols options rule uncut put.
    let m = g.W.Watch.meaning in
    let trigger = c.in-Ok.trigger in
    let is =
    step.cut_is m uncut symbols options c.args.steps c.requires.made
    ∙ c.in-Ok.ensures.cut _ _ last.step.on_stack rule (step.noted_is m uncut symbols) in
    let may = step.room m uncut c.requires.few in
    let have = step.put_as m uncut options put in
    let are =
    c.in_ok-put_segment.ensures.puts (step.plan m uncut old) symbols options (step.is_putting m uncut old trigger)
    (step.have_put m uncut have trigger is may options) in
    let done =
    step.done m uncut have trigger is may c.put_segment.new.begun.parts c.put_segment.new.begun.counting.recorder
    c.put_segment.new.watch (shelf_of g.F.Folder c.put_segment.new.folder) are c.put_segment.ensures.known
    c.put_segment.ensures.live in
    let P : Machine → RunCosts → Type 0 = λ machine costs.
    StandsAfter m guest first (past ++ last ∷ []) machine costs c.put_segment.new.begun.counting.recorder
    (record c.put_segment.new.begun.parts.head { part = c.put_segment.new.begun.parts.head.part + 1 })
    c.put_segment.new.watch in (
      subst (λ machine. P machine c.put_segment.new.begun.counting.costs) (sym c.put_segment.ensures.machine)
          (subst (P c.args.begun.now.counting.machine) (sym c.put_segment.ensures.costs) done.0),
      done.1,
    )
