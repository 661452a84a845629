use Rattle.std.proofs.Common.{◌≡◌, ◌++◌, List, sym, subst, ap, arith}
use Rattle.event_costs.specs.Arcs.{Telling, TakesAll}
use Rattle.shadow_stack.specs.declared.arena.Head.{Head}
use Rattle.shadow_stack.specs.declared.frame.Frame.{Frame}
use Rattle.shadow_stack.specs.Frames.{closing, closings, StartWithin}
use Rattle.shadow_stack.specs.Arenas.{frames, LiesIn}
use Rattle.shadow_stack.specs.Entries.{beneath_entry}
use Rattle.shadow_stack.proofs.TellingLemmas.{TakesAll-append, takes_later, StartWithin-tail}
use Rattle.shadow_stack.proofs.closing.tell_all.Goals as goal

pub told-init : goal.told-init
told-init g c = record {
  lies = c.requires.lies;
  starts = c.requires.starts;
  can_take = c.requires.tellings;
  told = λ last t. t;
}

pub tell-requires-clause-within : goal.tell-requires-clause-within
tell-requires-clause-within g c =
    (subst (λ (fs : List Frame). StartWithin c.args.total.now fs) c.top-node.ensures.frames c.told.invariant.starts) 0
    c.top-node.result.now.frame (omega arith)

pub tell-requires-clause-tellings : goal.tell-requires-clause-tellings
tell-requires-clause-tellings g c =
    g.met.S.ArcSink.takes_front c.told.sink (closing c.args.total.now c.top-node.result.now.frame)
    (closings c.args.total.now (frames c.args.arena.now.slots (beneath_entry c.told.at c.top-node.result.now)))
    (subst (λ (fs : List Frame). g.S.ArcSink.can_take c.told.sink (closings c.args.total.now fs))
    c.top-node.ensures.frames c.told.invariant.can_take)

pub told-preserved : goal.told-preserved
told-preserved g c =
    let slots = c.args.arena.now.slots in
    let total = c.args.total.now in
    let takes = g.S.ArcSink.takes in
    let node = c.top-node.result.now in
    let back : beneath_entry c.told.at node ≡ c.beneath-beneath.result = sym c.beneath-beneath.ensures in
    let rest = closings total (frames slots (beneath_entry c.told.at node)) in
    let step : closings total (frames slots c.told.at) ≡ closing total node.frame ++ rest
    = ap (closings total) c.top-node.ensures.frames in
    record {
      lies = subst (λ h. LiesIn slots h) back c.top-node.ensures.beneath;
      starts =
          subst (λ (h : Head). StartWithin total (frames slots h)) back
          (StartWithin-tail total (frames slots c.told.at) (frames slots (beneath_entry c.told.at node)) node.frame
          c.top-node.ensures.frames c.told.invariant.starts);
      can_take =
          subst (λ (h : Head). g.S.ArcSink.can_take c.tell.new.sink (closings total (frames slots h))) back
          (takes_later takes g.S.ArcSink.can_take g.met.S.ArcSink.takes_rest c.told.sink c.tell.new.sink
          (closing total node.frame) rest
          (subst (λ (ts : List Telling). g.S.ArcSink.can_take c.told.sink ts) step c.told.invariant.can_take)
          c.tell.ensures);
      told = λ last t.
          c.told.invariant.told last
          (subst (λ (ts : List Telling). TakesAll takes c.told.sink ts last) (sym step)
          (TakesAll-append takes c.told.sink c.tell.new.sink last (closing total node.frame) rest c.tell.ensures
          (subst (λ (h : Head). TakesAll takes c.tell.new.sink (closings total (frames slots h)) last)
          c.beneath-beneath.ensures t)));
    }
