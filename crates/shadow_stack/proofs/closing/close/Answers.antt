use Rattle.std.proofs.Common.{◌≡◌, ◌-◌, ◌++◌, suc, ◌∷◌, List, take, drop, refl, ap, sym, subst, ◌∙◌, arith}
use Rattle.event_costs.specs.Arcs.{Telling, TakesAll}
use Rattle.shadow_stack.specs.declared.frame.Frame.{Frame}
use Rattle.shadow_stack.specs.Frames.{closing, closings, StartWithin}
use Rattle.shadow_stack.specs.Arenas.{frames}
use Rattle.shadow_stack.specs.Entries.{beneath_entry}
use Rattle.shadow_stack.proofs.ChainLemmas.{ChangesChainOnly-refl, ChangesChainOnly-trans}
use Rattle.shadow_stack.proofs.TellingLemmas.{TakesAll-append, takes_later, closings-step, drop-step, StartWithin-tail}
use Rattle.shadow_stack.proofs.closing.close.Goals as goal

pub closed-init : goal.closed-init
closed-init g c = record {
  lies = c.requires.lies;
  below = c.requires.below;
  starts = c.requires.starts;
  can_take = c.requires.tellings;
  left = refl;
  told = λ last t. t;
  chain = ChangesChainOnly-refl c.args.arena.now.slots c.args.head;
  room = refl;
}

-- the frames of a chain, the top apart
apart : (fs gs : List Frame) (f : Frame) → fs ≡ f ∷ gs → fs ≡ f ∷ drop 1 fs
apart fs gs f is = is ∙ ap (λ (l : List Frame). f ∷ l) (sym (ap (drop 1) is))

pub tell-requires-clause-within : goal.tell-requires-clause-within
tell-requires-clause-within g c =
    (subst (λ (fs : List Frame). StartWithin c.args.total.now fs) c.top.ensures.frames c.closed.invariant.starts) 0
    c.top.result.now.frame (omega arith)

pub tell-requires-clause-tellings : goal.tell-requires-clause-tellings
tell-requires-clause-tellings g c =
    let deep : c.closed.at.depth - c.args.depth ≡ suc (c.closed.at.depth - 1 - c.args.depth)
    = omega (arith, c.closed-test.true) in
    let frame = c.top.result.now.frame in
    let was = frames c.closed.arena.slots c.closed.at in
    g.met.S.ArcSink.takes_front c.closed.sink (closing c.args.total.now frame)
    (closings c.args.total.now (take (c.closed.at.depth - 1 - c.args.depth) (drop 1 was)))
    (subst (λ (ts : List Telling). g.S.ArcSink.can_take c.closed.sink ts)
    (closings-step c.args.total.now was (drop 1 was) frame (c.closed.at.depth - c.args.depth)
    (c.closed.at.depth - 1 - c.args.depth)
    (apart was (frames c.closed.arena.slots (beneath_entry c.closed.at c.top.result.now)) frame c.top.ensures.frames) deep)
    c.closed.invariant.can_take)

pub closed-preserved : goal.closed-preserved
closed-preserved g c =
    let deep : c.closed.at.depth - c.args.depth ≡ suc (c.pop-at.result.depth - c.args.depth)
    = omega (arith, c.pop-at.ensures.depth, c.closed-test.true) in
    let was = frames c.closed.arena.slots c.closed.at in
    let rest = frames c.pop-at.new.self.slots c.pop-at.result in
    let frame = c.top.result.now.frame in
    let whole : was ≡ frame ∷ rest = apart was (frames c.closed.arena.slots (beneath_entry c.closed.at c.top.result.now))
    frame c.top.ensures.frames ∙ ap (λ (l : List Frame). frame ∷ l) (sym c.pop-at.ensures.frames) in
    let step : closings c.args.total.now (take (c.closed.at.depth - c.args.depth) was)
    ≡ closing c.args.total.now frame ++ closings c.args.total.now
    (take (c.pop-at.result.depth - c.args.depth) rest) =
    closings-step c.args.total.now was rest frame (c.closed.at.depth - c.args.depth)
    (c.pop-at.result.depth - c.args.depth) whole deep in
    record {
      lies = c.pop-at.ensures.lies;
      below = omega (arith, c.pop-at.ensures.depth, c.closed-test.true);
      starts =
          StartWithin-tail c.args.total.now was rest frame whole
          c.closed.invariant.starts;
      can_take =
          takes_later g.S.ArcSink.takes g.S.ArcSink.can_take g.met.S.ArcSink.takes_rest c.closed.sink c.tell.new.sink
          (closing c.args.total.now frame)
          (closings c.args.total.now (take (c.pop-at.result.depth - c.args.depth) rest))
          (subst
          (λ (ts : List Telling). g.S.ArcSink.can_take c.closed.sink ts) step c.closed.invariant.can_take)
          c.tell.ensures;
      left =
          sym (drop-step was rest frame (c.closed.at.depth - c.args.depth)
          (c.pop-at.result.depth - c.args.depth) whole deep) ∙ c.closed.invariant.left;
      told = λ last t.
          c.closed.invariant.told last
          (subst (λ (ts : List Telling). TakesAll g.S.ArcSink.takes c.closed.sink ts last) (sym step)
          (TakesAll-append g.S.ArcSink.takes c.closed.sink c.tell.new.sink last
          (closing c.args.total.now frame)
          (closings c.args.total.now (take (c.pop-at.result.depth - c.args.depth) rest)) c.tell.ensures t));
      chain =
          ChangesChainOnly-trans c.args.arena.now.slots c.closed.arena.slots c.pop-at.new.self.slots c.args.head
          c.closed.at c.pop-at.result
          c.closed.invariant.chain c.pop-at.ensures.chain;
      room = omega (arith, c.closed.invariant.room, c.pop-at.ensures.room, c.pop-at.ensures.depth);
    }
