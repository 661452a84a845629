use Rattle.std.proofs.Common.{◌+◌, List, sym, ap, ◌∙◌, arith}
use Rattle.std.proofs.lemmas.List.{take_all}
use Rattle.elf_read.specs.declared.symbol.Symbol.{Symbol}
use Rattle.sym_map.specs.inner.Functions.{first_cover}
use Rattle.sym_map.specs.inner.Naming.{NumberedSymbol}
use Rattle.sym_map.specs.inner.Spans.{or_below, cover}
use Rattle.sym_map.specs.Symbols.{covers_sized}
use Rattle.sym_map.proofs.SymbolSpans.{StandsAt, pushed, skipped, covers_by_size, not_by_size}
use Rattle.sym_map.proofs.symbol_span.push_sized.Goals as goal
use Rattle.sym_map.proofs.symbol_span.push_sized.Goals.{then-is_sized+in_ok-push, else-is_sized}

pub placed-preserved : goal.placed-preserved
placed-preserved c = λ a.
    let one : NumberedSymbol = c.one-item.result in
    let symbol : Symbol = c.symbol-symbol.result in
    let stands : StandsAt c.args.placed.now c.placed.one-index one symbol = record {
      within = c.placed-test.true;
      at = c.one-item.is;
      symbol = c.symbol-symbol.ensures;
    } in
    elim c.if-is_sized.branch [
      | then-is_sized+in_ok-push w ↦
          ap (λ v. cover v.items a) w.spans-is ∙ ap (λ xs. cover xs a) w.in_ok-push.ensures.items
          ∙ pushed covers_sized c.placed.spans.items c.args.placed.now c.placed.one-index one symbol
          (cover c.args.spans.now.items a) w.label_of.result (w.from.result + w.from-then-is_sized.result) a stands
          (rw (w.from.ensures, w.from-then-is_sized.ensures)
          (covers_by_size a symbol (sym c.is_sized.ensures ∙ w.if-is_sized.true))) w.label_of.ensures
          (c.placed.invariant a)
      | else-is_sized w ↦
          ap (λ v. cover v.items a) w.spans-is
          ∙ skipped (covers_sized a) c.args.placed.now c.placed.one-index one symbol (cover c.args.spans.now.items a)
          (cover c.placed.spans.items a) stands (c.placed.invariant a)
          (not_by_size a symbol (sym c.is_sized.ensures ∙ w.if-is_sized.false))
    ]

pub returns : goal.returns
returns c = λ a.
    c.placed.invariant a ∙ ap (λ (xs : List NumberedSymbol). or_below (cover c.args.spans.now.items a)
    (first_cover (covers_sized a) xs)) (take_all c.placed.one-index c.args.placed.now (omega arith))
