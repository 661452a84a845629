use Rattle.std.proofs.Common.{◌≡◌, ◌∙◌, List, ap, arith, length, map, subst, sym}
use Rattle.std.specs.List.Sorted.{IsStrictlySortedBy}
use Rattle.std.proofs.lemmas.List.{length-map, with_items_is}
use Rattle.arc_costs.specs.Contents.{Listed}
use Rattle.arc_costs.specs.Keys.{risen}
use Rattle.contexts.specs.Contexts.{Context, context_order}
use Rattle.ctx_rows.specs.Telling.{named_arc, named_line}
use Rattle.ctx_rows.specs.Texts.{numbered_arc, numbered_line}
use Rattle.ctx_rows.proofs.RankLemmas.{risen_sorted}
use Rattle.ctx_rows.proofs.ranking.rank.Goals as goal

pub rank_lines-requires : goal.rank_lines-requires
rank_lines-requires c =
    subst (λ (cs : List Context). IsStrictlySortedBy context_order cs)
    (sym (c.deref.ensures.value ∙ c.in_ok-ranked.ensures)) (risen_sorted c.in_ok-all_contexts.field-0.items)

pub rank_arcs-requires : goal.rank_arcs-requires
rank_arcs-requires c =
    subst (λ (cs : List Context). IsStrictlySortedBy context_order cs)
    (sym (c.deref-2.ensures.value ∙ c.in_ok-ranked.ensures)) (risen_sorted c.in_ok-all_contexts.field-0.items)

pub returns-clause-rows : goal.returns-clause-rows
returns-clause-rows c =
    let cs = c.args.contexts.now in
    let are = c.in_ok-ranked.ensures ∙ ap (risen context_order) c.in_ok-all_contexts.ensures in
    let one = c.deref.ensures.value ∙ are in
    let two = c.deref-2.ensures.value ∙ are in
    let line_size : length c.rank_lines.new.rows ≡ c.rows.inside.lines.len
    = omega (
      arith,
      simp length-map at (ap length c.rank_lines.ensures),
      ap length c.deref_mut.ensures.value,
      c.rows.inside.lines.ok.0,
    ) in
    let arc_size : length c.rank_arcs.new.rows ≡ c.rows.inside.arcs.len
    = omega (
      arith,
      simp length-map at (ap length c.rank_arcs.ensures),
      ap length c.deref_mut-2.ensures.value,
      c.rows.inside.arcs.ok.0,
    ) in
    let lines = c.deref_mut.ensures.value ∙ ap (λ (l : Listed). l.lines) c.rows.view_is in
    let arcs = c.deref_mut-2.ensures.value ∙ ap (λ (l : Listed). l.arcs) c.rows.view_is in
    λ i. record {
      lines = (with_items_is c.rows.inside.lines c.rank_lines.new.rows line_size ∙ c.rank_lines.ensures
          ∙ (λ j. map (numbered_line (one j)) (map (named_line cs) (lines j)))) i;
      arcs = (with_items_is c.rows.inside.arcs c.rank_arcs.new.rows arc_size ∙ c.rank_arcs.ensures
          ∙ (λ j. map (numbered_arc (two j)) (map (named_arc cs) (arcs j)))) i;
    }
