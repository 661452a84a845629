use Rattle.std.proofs.Common.{◌-◌, ◌∙◌, List, ap, if◌then◌else◌, refl, reverse, subst, take}
use Rattle.event_costs.specs.declared.numbers.FuncId.{FuncId}
use Rattle.shadow_stack.specs.Frames.{closings}
use Rattle.recorder.specs.inner.Tellers.{RowsAfterTellings}
use Rattle.ctx_costs.specs.inner.Frames.{numbered_frames}
use Rattle.ctx_costs.specs.inner.Tracks.{count_gone}
use Rattle.ctx_costs.proofs.ChangedLemmas.{numbers_kept}
use Rattle.ctx_costs.proofs.track.Track.leave.Goals as goal

pub returns-clause-left : goal.returns-clause-left
returns-clause-left c =
    let b = c.args.self.now in
    let syms = c.args.syms.now in
    let e = c.args.event.now in
    record {
      frames = c.tell-pushed.ensures.frames;
      numbers =
          ap reverse c.truncate.ensures.items
          ∙ numbers_kept syms e b c.requires.rooted c.requires.framed c.count_kept-kept.result c.depth.result
          c.tell-pushed.result c.tell-pushed.new.calls.frames
          (c.count_kept-kept.ensures ∙ ap (λ some. c.depth.result - (if some then 1 else 0)) c.is_some.ensures)
          c.depth.ensures c.tell-pushed.ensures.stacked c.tell-pushed.ensures.pushed;
      told =
          subst (λ (ns : List FuncId). RowsAfterTellings b.rows
          (closings b.total (take (count_gone syms e b) (numbered_frames b.stack.frames (reverse ns)))) c.tell-pushed.new.rows)
          c.deref.ensures.value c.tell-pushed.ensures.told;
      stacked = c.tell-pushed.ensures.stacked;
      starts = c.tell-pushed.ensures.starts;
      same = record { alloc = refl; thread = refl; total = refl };
      capacity = c.truncate.ensures.capacity;
    }
