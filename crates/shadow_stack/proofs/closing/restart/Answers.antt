use Rattle.std.proofs.Common.{◌≡◌, ◌==◌, true, List, refl, sym, subst, ◌∙◌, arith}
use Rattle.event_costs.specs.Arcs.{Telling, TakesAll}
use Rattle.shadow_stack.specs.declared.arena.Head.{Head}
use Rattle.shadow_stack.specs.declared.frame.Frame.{Frame}
use Rattle.shadow_stack.specs.Frames.{closing, closings, StartWithin}
use Rattle.shadow_stack.specs.Arenas.{frames, beneath, is_in_chain, LiesIn, AreRestarted}
use Rattle.shadow_stack.specs.Entries.{top_node}
use Rattle.shadow_stack.proofs.ChainLemmas.{in_chain-split}
use Rattle.shadow_stack.proofs.RestartLemmas.{left_lies, next_of, IsNext, one_more, none_done, whole_done, is_between}
use Rattle.shadow_stack.proofs.TellingLemmas.{TakesAll-append, takes_later, StartWithin-tail}
use Rattle.std.proofs.lemmas.Bool.{or_right}
use Rattle.shadow_stack.proofs.closing.restart.Goals as goal

pub restarted-init : goal.restarted-init
restarted-init g c = record {
  lies = c.requires.lies;
  within = λ key on. on;
  nodes = none_done c.args.total.now c.args.arena.now.slots c.args.head;
  starts = c.requires.starts;
  can_take = c.requires.tellings;
  told = λ last t. t;
  room = refl;
}

pub top-node-requires-clause-lies : goal.top-node-requires-clause-lies
top-node-requires-clause-lies g c =
    left_lies c.args.total.now c.args.arena.now.slots c.restarted.arena.slots c.args.head c.restarted.at
    c.restarted.invariant.lies c.restarted.invariant.nodes

pub restart_top-requires-clause-lies : goal.restart_top-requires-clause-lies
restart_top-requires-clause-lies g c =
    left_lies c.args.total.now c.args.arena.now.slots c.restarted.arena.slots c.args.head c.restarted.at
    c.restarted.invariant.lies c.restarted.invariant.nodes

pub tell-requires-clause-within : goal.tell-requires-clause-within
tell-requires-clause-within g c =
    let next : IsNext c.args.total.now c.args.arena.now.slots c.restarted.at (top_node c.restarted.arena.slots c.restarted.at c.top-node.result.now) =
    next_of c.args.total.now c.args.arena.now.slots c.restarted.arena.slots c.args.head c.restarted.at
    (top_node c.restarted.arena.slots c.restarted.at c.top-node.result.now) c.restarted.invariant.lies c.restarted-test.true c.restarted.invariant.nodes
    c.top-node.ensures.node in
    (subst
    (λ (fs : List Frame). StartWithin c.args.total.now fs) next.frames_are c.restarted.invariant.starts) 0
    c.top-node.result.now.frame (omega arith)

pub tell-requires-clause-tellings : goal.tell-requires-clause-tellings
tell-requires-clause-tellings g c =
    let next : IsNext c.args.total.now c.args.arena.now.slots c.restarted.at (top_node c.restarted.arena.slots c.restarted.at c.top-node.result.now) =
    next_of c.args.total.now c.args.arena.now.slots c.restarted.arena.slots c.args.head c.restarted.at
    (top_node c.restarted.arena.slots c.restarted.at c.top-node.result.now) c.restarted.invariant.lies c.restarted-test.true c.restarted.invariant.nodes
    c.top-node.ensures.node in
    g.met.S.ArcSink.takes_front c.restarted.sink (closing c.args.total.now c.top-node.result.now.frame)
    (closings c.args.total.now (frames c.args.arena.now.slots (beneath c.restarted.at (top_node c.restarted.arena.slots c.restarted.at c.top-node.result.now))))
    (subst
    (λ (ts : List Telling). g.S.ArcSink.can_take c.restarted.sink ts) next.tellings_are c.restarted.invariant.can_take)

pub restarted-preserved : goal.restarted-preserved
restarted-preserved g c =
    let old = c.args.arena.now.slots in
    let at = c.restarted.at in
    let node = top_node c.restarted.arena.slots at c.top-node.result.now in
    let total = c.args.total.now in
    let back : beneath c.restarted.at (top_node c.restarted.arena.slots c.restarted.at c.top-node.result.now) ≡ c.beneath-beneath.result
    = sym c.beneath-beneath.ensures in
    let next : IsNext c.args.total.now c.args.arena.now.slots c.restarted.at (top_node c.restarted.arena.slots c.restarted.at c.top-node.result.now) =
    next_of total old c.restarted.arena.slots c.args.head at node c.restarted.invariant.lies c.restarted-test.true
    c.restarted.invariant.nodes c.top-node.ensures.node in
    let takes = g.S.ArcSink.takes in
    record {
      lies = subst (λ h. LiesIn old h) back next.splits.beneath;
      within = λ key on.
          c.restarted.invariant.within key
          (in_chain-split old at node key c.restarted-test.true next.splits
          ∙ or_right (at.top == key) (is_in_chain old (beneath at node) key)
          (subst (λ (h : Head). is_in_chain old h key ≡ true) c.beneath-beneath.ensures on));
      nodes =
          subst (λ h. AreRestarted (is_between old c.args.head h) total old c.restart_top.new.self.slots) back
          (one_more total old c.restarted.arena.slots c.restart_top.new.self.slots c.args.head at node
          c.restarted-test.true next.splits c.restarted.invariant.within
          c.restarted.invariant.nodes c.restart_top.ensures.nodes);
      starts =
          subst (λ (h : Head). StartWithin total (frames old h)) back
          (StartWithin-tail total (frames old at)
          (frames old (beneath at node)) node.frame next.frames_are c.restarted.invariant.starts);
      can_take =
          subst (λ (h : Head). g.S.ArcSink.can_take c.tell.new.sink (closings total (frames old h))) back
          (takes_later takes g.S.ArcSink.can_take g.met.S.ArcSink.takes_rest c.restarted.sink c.tell.new.sink
          (closing total node.frame) (closings total (frames old (beneath at node)))
          (subst
          (λ (ts : List Telling). g.S.ArcSink.can_take c.restarted.sink ts) next.tellings_are
          c.restarted.invariant.can_take) c.tell.ensures);
      told = λ last t.
          c.restarted.invariant.told last
          (subst (λ (ts : List Telling). TakesAll takes c.restarted.sink ts last) (sym next.tellings_are)
          (TakesAll-append takes c.restarted.sink c.tell.new.sink last (closing total node.frame)
          (closings total (frames old (beneath at node))) c.tell.ensures
          (subst
          (λ (h : Head). TakesAll takes c.tell.new.sink
          (closings total (frames old h)) last) c.beneath-beneath.ensures t)));
      room = c.restart_top.ensures.room ∙ c.restarted.invariant.room;
    }

pub returns-clause-lies : goal.returns-clause-lies
returns-clause-lies g c =
    (whole_done c.args.total.now c.args.arena.now.slots c.restarted.arena.slots c.args.head c.restarted.at
    c.requires.lies (omega (arith, c.restarted-test.false)) c.restarted.invariant.nodes).lies

pub returns-clause-frames : goal.returns-clause-frames
returns-clause-frames g c =
    (whole_done c.args.total.now c.args.arena.now.slots c.restarted.arena.slots c.args.head c.restarted.at
    c.requires.lies (omega (arith, c.restarted-test.false)) c.restarted.invariant.nodes).frames

pub returns-clause-chain : goal.returns-clause-chain
returns-clause-chain g c =
    (whole_done c.args.total.now c.args.arena.now.slots c.restarted.arena.slots c.args.head c.restarted.at
    c.requires.lies (omega (arith, c.restarted-test.false)) c.restarted.invariant.nodes).chain
