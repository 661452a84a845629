use Rattle.std.proofs.Common.{◌≡◌, ◌∷◌, ◌++◌, ◌∙◌, [], ap, if◌then◌else◌, is_ok, refl, reverse, subst}
use Rattle.std.proofs.lemmas.List.{reverse-append}
use Rattle.event_costs.specs.Arcs.{Pushed}
use Rattle.event_costs.specs.Keys.{ArcKey}
use Rattle.event_costs.specs.declared.numbers.FuncId.{FuncId}
use Rattle.arc_costs.specs.Arcs.{has_arc}
use Rattle.recorder.specs.inner.Tellers.{RowsAfterTellings}
use Rattle.contexts.specs.Contexts.{number, with_context}
use Rattle.ctx_costs.specs.inner.Frames.{entry_arc, first_number}
use Rattle.ctx_costs.specs.inner.Tracks.{context_entered, numbers_of}
use Rattle.ctx_costs.proofs.ChangedLemmas.{entered_is}
use Rattle.ctx_costs.proofs.Others.{at_most_one, row_told}
use Rattle.ctx_costs.proofs.track.Track.enter.Goals as goal

pub returns : goal.returns
returns c =
    let b = c.args.self.now in
    let cs = c.args.contexts.now.contexts in
    let number_ = c.number_of-callee.result in
    let entered : c.entering.result ≡ context_entered c.args.callers cs (first_number (numbers_of b)) c.args.entry
    = entered_is c.args.callers cs c.args.entry c.top-caller.result (first_number (numbers_of b))
    c.context-beneath.result c.entering.result c.top-caller.ensures c.context-beneath.ensures c.entering.ensures in
    let is : ArcKey = entry_arc c.args.entry c.top-caller.result number_ in
    let same : is ≡ entry_arc c.args.entry (first_number (numbers_of b)) number_
    = ap (λ (n : FuncId). entry_arc c.args.entry n number_) c.top-caller.ensures in
    let one = c.count_call.ensures in
    record {
      number = number_;
      is = c.number_of-callee.ensures.number ∙ ap (number cs) entered;
      numbers =
          ap reverse (c.push.ensures.items
          ∙ ap (λ r. if is_ok r then b.numbers.items ++ number_ ∷ [] else b.numbers.items) c.unwrap.ensures)
          ∙ reverse-append b.numbers.items (number_ ∷ []);
      contexts = c.number_of-callee.ensures.contexts ∙ ap (with_context cs) entered;
      told =
          subst (λ (a : ArcKey). RowsAfterTellings b.rows (Pushed a ∷ []) c.count_call.new.self) same
          (row_told b.rows c.count_call.new.self (Pushed is) one.arcs one.lines one.keys one.stands one.line_room
          (at_most_one (has_arc is b.rows.arcs) b.rows.arc_room c.count_call.new.self.arc_room one.arc_room));
      stack = refl;
      same = record { alloc = refl; thread = refl; total = refl };
    }
