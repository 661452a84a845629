use Rattle.std.proofs.Common.{◌∷◌, ◌∙◌, [], List, append_assoc, append-nil, ap, map, rules, sym}
use Rattle.std.proofs.lemmas.List.{map-append, take_all, take_more}
use Rattle.contexts.specs.Contexts.{Context}
use Rattle.ctx_rows.specs.Rows.{OfThread}
use Rattle.ctx_rows.specs.Telling.{named_arc, named_line}
use Rattle.ctx_rows.proofs.numbering.by_number.Goals as goal

pub lines-preserved : goal.lines-preserved
lines-preserved c more =
    search (
      rules,
      map-append,
      take_more,
      append_assoc,
      c.in_ok-func.ensures.lists,
      c.lines.invariant (c.row-item.result.ctx ∷ more),
      c.in_ok-func.ensures.number more,
    )

pub arcs-init : goal.arcs-init
arcs-init c = record {
  lines = λ more.
      c.lines.invariant more ∙ take_all c.lines.row-index c.deref-row-items.result.now c.lines-test.false
      ∙ c.deref-row-items.ensures.value ∙ ap (λ (v : OfThread). v.rows.lines) c.rows.view_is;
  arcs = λ more. search rules;
}

pub arcs-preserved : goal.arcs-preserved
arcs-preserved c =
    let row = c.row-item-in-arcs.result in
    record {
      lines = λ more.
          simp (c.in_ok-callee.ensures.lists, c.in_ok-caller.ensures.lists, append_assoc)
          (c.arcs.invariant.lines (row.caller ∷ (row.callee ∷ more)));
      arcs = λ more.
          search (
            rules,
            map-append,
            take_more,
            append_assoc,
            c.in_ok-callee.ensures.lists,
            c.in_ok-caller.ensures.lists,
            c.arcs.invariant.arcs (row.caller ∷ (row.callee ∷ more)),
            c.in_ok-caller.ensures.number (row.callee ∷ more),
            c.in_ok-callee.ensures.number more,
          );
    }

pub returns : goal.returns
returns c =
    let cs : List Context = map (λ list. list.items) c.arcs.lists.items in
    let all = sym (append-nil cs) in
    let listed = c.deref-row-items-2.result.now in
    λ i. record {
      lines = (ap (λ ds. map (named_line ds) c.lines.lines.items) all ∙ c.arcs.invariant.lines []) i;
      arcs = (ap (λ ds. map (named_arc ds) c.arcs.arcs.items) all ∙ c.arcs.invariant.arcs []
          ∙ take_all c.arcs.row-index listed c.arcs-test.false ∙ c.deref-row-items-2.ensures.value
          ∙ ap (λ (v : OfThread). v.rows.arcs) c.rows.view_is) i;
    }
