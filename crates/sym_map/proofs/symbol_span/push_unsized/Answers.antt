use Rattle.std.proofs.Common.{◌≡◌, List, ◌∷◌, [], ◌++◌, get_or, map, take, sym, ap, subst, ◌∙◌, arith}
use Rattle.std.proofs.lemmas.List.{take_all}
use Rattle.elf_read.specs.declared.symbol.Symbol.{Symbol}
use Rattle.sym_map.specs.inner.Functions.{first_cover}
use Rattle.sym_map.specs.inner.Limits.{Limit, limit_of, AreLowest, IsBelow, IsNextValue}
use Rattle.sym_map.specs.inner.Naming.{NumberedSymbol}
use Rattle.sym_map.specs.inner.Spans.{or_below, cover}
use Rattle.sym_map.specs.Symbols.{covers_unsized}
use Rattle.sym_map.proofs.Limits.{SameAbove, limit_in, next_alike, before_below, above_before, limits_more}
use Rattle.sym_map.proofs.Spans.{or_below-nothing}
use Rattle.sym_map.proofs.SymbolSpans.{StandsAt, symbol_at_is, pushed, skipped, not_without_size}
use Rattle.sym_map.proofs.symbol_span.push_unsized.Goals as goal
use Rattle.sym_map.proofs.symbol_span.push_unsized.Goals.{then-not-is_sized+in_ok-push, else-not-is_sized}

pub placed-init : goal.placed-init
placed-init c = record {
  passed = c.in_ok-limits.ensures.none;
  all = c.in_ok-limits.ensures.all;
  cover = λ a. sym (or_below-nothing (cover c.args.spans.now.items a));
}

pub pass-next-requires : goal.pass-next-requires
pass-next-requires c =
    let one : NumberedSymbol = c.one-item.result in
    let symbol : c.symbol-symbol.result ≡ (get_or c.args.placed.now c.placed.one-index one).symbol =
    c.symbol-symbol.ensures ∙ ap (λ (p : NumberedSymbol). p.symbol) c.one-item.is in
    rw (symbol, c.placed.invariant.all) (c.requires.in_range c.placed.one-index one c.placed-test.true)

pub placed-preserved : goal.placed-preserved
placed-preserved c =
    let placed : List NumberedSymbol = c.args.placed.now in
    let one : NumberedSymbol = c.one-item.result in
    let symbol : Symbol = c.symbol-symbol.result in
    let stands : StandsAt placed c.placed.one-index one symbol = record {
      within = c.placed-test.true;
      at = c.one-item.is;
      symbol = c.symbol-symbol.ensures;
    } in
    let is : symbol ≡ (get_or placed c.placed.one-index one).symbol =
    symbol_at_is placed c.placed.one-index one symbol stands in
    let limits : List Limit = map limit_in (take c.placed.one-index placed) in
    let below : IsBelow limits symbol.value = subst (λ (s : Symbol). IsBelow limits s.value) (sym is)
    (before_below placed c.placed.one-index one c.requires.fall c.placed-test.true) in
    let next : IsNextValue (map limit_in placed) (limit_of symbol) c.pass-next.result =
    next_alike limits (map limit_in placed) (limit_of symbol) c.pass-next.result
    (subst (λ (s : Symbol). SameAbove limits (map limit_in placed) (limit_of s)) (sym is)
    (above_before placed c.placed.one-index one c.requires.fall c.placed-test.true))
    (c.pass-next.ensures.next limits c.placed.invariant.passed below) in
    record {
      passed =
          subst (λ (xs : List Limit). AreLowest xs c.pass-next.new.self.sections.items)
          (ap (λ (s : Symbol). limits ++ limit_of s ∷ []) is
          ∙ sym (limits_more placed c.placed.one-index one c.requires.fall c.placed-test.true))
          (c.pass-next.ensures.passed limits c.placed.invariant.passed below);
      all = c.pass-next.ensures.all ∙ c.placed.invariant.all;
      cover = λ a.
          elim c.if-not-is_sized.branch [
            | then-not-is_sized+in_ok-push w ↦
                ap (λ v. cover v.items a) w.spans-is ∙ ap (λ xs. cover xs a) w.in_ok-push.ensures.items
                ∙ pushed (covers_unsized c.args.elf.now) c.placed.spans.items placed c.placed.one-index one symbol
                (cover c.args.spans.now.items a) w.label_of.result w.unsized_end.result a stands
                (w.unsized_end.ensures (map limit_in placed) c.requires.same next a) w.label_of.ensures
                (c.placed.invariant.cover a)
            | else-not-is_sized w ↦
                ap (λ v. cover v.items a) w.spans-is
                ∙ skipped (covers_unsized c.args.elf.now a) placed c.placed.one-index one symbol
                (cover c.args.spans.now.items a) (cover c.placed.spans.items a) stands (c.placed.invariant.cover a)
                (not_without_size c.args.elf.now a symbol (sym c.is_sized.ensures ∙ w.if-not-is_sized.false))
          ];
    }

pub returns : goal.returns
returns c = λ a.
    c.placed.invariant.cover a ∙ ap (λ (xs : List NumberedSymbol). or_below (cover c.args.spans.now.items a)
    (first_cover (covers_unsized c.args.elf.now a) xs)) (take_all c.placed.one-index c.args.placed.now (omega arith))
