use Rattle.std.proofs.Common.{◌≡◌, ◌-◌, suc, drop, length, sym, ap, subst, ◌∙◌, arith}
use Rattle.std.proofs.lemmas.List.{length-map}
use Rattle.shadow_stack.specs.Arenas.{frames, links, LiesIn}
use Rattle.shadow_stack.specs.Entries.{beneath_entry}
use Rattle.shadow_stack.proofs.FrameLemmas.{drop-next, frame_from_bottom}
use Rattle.shadow_stack.proofs.reading.frame_at.Goals as goal

pub sought-preserved : goal.sought-preserved
sought-preserved c =
    let back : beneath_entry c.sought.at c.top.result.now ≡ c.beneath-at.result = sym c.beneath-at.ensures in
    let slots = c.args.arena.now.slots in
    let depth : c.beneath-at.result.depth ≡ c.sought.at.depth - 1 = ap (λ h. h.depth) c.beneath-at.ensures in
    let one : suc (c.args.head.depth - c.sought.at.depth) ≡ c.args.head.depth - c.beneath-at.result.depth
    = omega (arith, c.sought.invariant.less, c.sought-test.true) in
    record {
      lies = subst (λ h. LiesIn slots h) back c.top.ensures.beneath;
      within = omega (arith, c.sought-test.true);
      less = omega (arith, c.sought.invariant.less);
      left =
          ap (frames slots) c.beneath-at.ensures
          ∙ sym (drop-next (c.args.head.depth - c.sought.at.depth) (frames slots c.args.head)
          (frames slots (beneath_entry c.sought.at c.top.result.now)) c.top.result.now.frame
          (sym c.sought.invariant.left ∙ c.top.ensures.frames))
          ∙ ap (λ n. drop n (frames slots c.args.head)) one;
    }

pub returns : goal.returns
returns c =
    let slots = c.args.arena.now.slots in
    let size : length (frames slots c.args.head) ≡ c.args.head.depth
    = length-map (links slots c.args.head) (λ l. l.node.frame) ∙ c.requires.lies.there in
    frame_from_bottom (frames slots c.args.head)
    (frames slots (beneath_entry c.sought.at c.top-2.result.now)) c.top-2.result.now.frame
    (c.args.head.depth - c.sought.at.depth) c.args.place
    (sym c.sought.invariant.left ∙ c.top-2.ensures.frames)
    (omega (arith, size, c.sought.invariant.less, c.sought.invariant.within, c.sought-test.false))
