use Rattle.std.proofs.Common.{◌∷◌, ◌++◌, ◌∙◌, [], List, ap, if◌then◌else◌, is_ok}
use Rattle.contexts.specs.Contexts.{number, with_context}
use Rattle.ctx_costs.specs.inner.Tracks.{Book}
use Rattle.ctx_rows.specs.States.{first_track}
use Rattle.ctx_costs.proofs.watch.begin.Goals as goal

pub returns-clause-ok : goal.returns-clause-ok
returns-clause-ok c = record {
  book = c.in_ok-track.track;
  all = c.push.ensures.items
      ∙ ap (λ r. if is_ok r then c.reserve.new.self.items ++ c.in_ok-track.track ∷ [] else c.reserve.new.self.items)
      c.unwrap.ensures
      ∙ ap (λ (bs : List Book). bs ++ c.in_ok-track.track ∷ []) c.reserve.ensures.items;
  track = c.in_ok-track.ensures.track
      ∙ ap (first_track c.args.thread c.args.func)
      (c.next_number-number.ensures ∙ ap (number c.args.contexts.now.contexts) c.of-context.ensures);
  framed = c.in_ok-track.ensures.framed;
  roomy = c.in_ok-track.ensures.room;
  contexts = c.number_of.ensures.contexts ∙ ap (with_context c.args.contexts.now.contexts) c.of-context.ensures;
  room = c.number_of.ensures.room;
}
