use Rattle.std.proofs.Common.{◌≡◌, ◌+◌, ◌-◌, length, refl, drop, take, sym, ap, ◌∙◌, arith, vec_len}
use Rattle.std.proofs.lemmas.List.{take_rest, with_items_is}
use Rattle.call_graph.specs.inner.Pass.{ranks}
use Rattle.call_graph.proofs.GiveLemmas.{fair_along, ranked_along}
use Rattle.call_graph.proofs.pass.close.Goals as goal

pub returns : goal.returns
returns c =
    let states = c.args.pass.now.states in
    let whole : vec_len states ≡ length states.items = omega arith in
    let marks_whole : vec_len c.args.pass.now.marks ≡ length c.args.pass.now.marks.items = omega arith in
    let size : length c.give.new.states ≡ length c.deref_mut.result.now = c.give.auto.states in
    let before = c.deref_mut.ensures.value in
    let rest : take (length c.deref.result.now - c.args.start) (drop c.args.start c.deref.result.now)
    ≡ drop c.args.start c.args.pass.now.path.items =
    take_rest c.deref.result.now c.args.start ∙ ap (drop c.args.start) c.deref.ensures.value in
    record {
      ranked = ranked_along (ap ranks before) rest (ap (λ xs. length xs + 1 + c.args.pass.now.count) before)
          (ap ranks (sym (with_items_is states c.give.new.states (omega (arith, size, ap length before, whole)))))
          c.give.ensures.ranked;
      fair =
          fair_along before
          (sym (with_items_is states c.give.new.states (omega (arith, size, ap length before, whole))))
          c.give.ensures.fair;
      path = c.truncate.ensures.items;
      marks = c.pop.ensures.rest ∙ ap (λ k. take (k - 1) c.args.pass.now.marks.items) marks_whole;
      work = refl;
      count = refl;
    }
