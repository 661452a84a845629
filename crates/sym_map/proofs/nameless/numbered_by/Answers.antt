use Rattle.std.proofs.Common.{◌≡◌, ℕ, ◌<◌, ◌∷◌, [], ◌++◌, List, map, take, length, get_or, sym, ap, ◌∙◌, arith}
use Rattle.std.proofs.Math.Seq.{map-set_same}
use Rattle.std.proofs.lemmas.List.{length-map, map_push, take_all, take_more, take_more_set}
use Rattle.elf_read.specs.declared.symbol.Symbol.{Symbol}
use Rattle.sym_map.specs.inner.Naming.{NumberedSymbol}
use Rattle.sym_map.proofs.nameless.numbered_by.Goals as goal

abbrev symbol_of : NumberedSymbol → Symbol
symbol_of n = n.symbol

abbrev number_of : NumberedSymbol → ℕ
number_of n = n.number

-- lists of the same symbols are of the same length
as_many : (xs ys : List NumberedSymbol) → map symbol_of xs ≡ map symbol_of ys → length xs ≡ length ys
as_many xs ys same = sym (length-map xs symbol_of) ∙ ap length same ∙ length-map ys symbol_of

pub numbered-preserved : goal.numbered-preserved
numbered-preserved c =
    let items : List NumberedSymbol = c.numbered.numbered.items in
    let many = as_many items c.args.candidates.items c.numbered.invariant.symbols in
    let inside : c.numbered.i < length items = omega (arith, many) in
    record {
      symbols = map-set_same symbol_of items c.numbered.i _ c.index_mut.result.now
          (ap symbol_of c.behind-numbered.view_is ∙ ap symbol_of c.index_mut.ensures.value)
          ∙ c.numbered.invariant.symbols;
      numbers = ap (map number_of) (take_more_set items c.numbered.i _ inside)
          ∙ map_push number_of (take c.numbered.i items) _
          ∙ ap (λ (ns : List ℕ). ns ++ get_or c.args.numbers.now c.numbered.i 0 ∷ []) c.numbered.invariant.numbers
          ∙ sym (take_more c.args.numbers.now c.numbered.i 0 c.numbered-test.true);
    }

pub returns-clause-numbers : goal.returns-clause-numbers
returns-clause-numbers c =
    let items : List NumberedSymbol = c.numbered.numbered.items in
    let many = as_many items c.args.candidates.items c.numbered.invariant.symbols in
    ap (map number_of) (sym (take_all c.numbered.i items (omega (arith, many)))) ∙ c.numbered.invariant.numbers
    ∙ take_all c.numbered.i c.args.numbers.now (omega arith)
