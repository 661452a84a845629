use Rattle.std.proofs.Common.{◌≡◌, ℕ, ◌<◌, ◌^◌, List, length, map, refl, sym, subst, ◌∙◌, arith}
use Rattle.std.proofs.lemmas.List.{length-map}
use Rattle.std.proofs.lemmas.List.Elements.{All-weaker}
use Rattle.sym_map.specs.declared.function.Function.{Function}
use Rattle.sym_map.specs.inner.Functions.{key_of}
use Rattle.name_numbers.specs.Keys.{NumberEach}
use Rattle.sym_map.specs.inner.Limits.{Fall}
use Rattle.sym_map.specs.inner.NameKeys.{name_key, function_named}
use Rattle.sym_map.specs.inner.Naming.{NamedSymbol, NumberedSymbol}
use Rattle.sym_map.specs.inner.Ranking.{named_in}
use Rattle.sym_map.proofs.Numbers.{all_there}
use Rattle.sym_map.proofs.FunctionNames.{functions_by_rank}
use Rattle.sym_map.proofs.Numbers.{nested}
use Rattle.sym_map.proofs.RankOrder.{values_fall}
use Rattle.sym_map.proofs.SymbolTables.{limits_alike, sections_within, are_symbols}
use Rattle.sym_map.proofs.symbols.read_symbols.Goals as goal

-- what is numbered anew has the symbols of what is sorted
placed_symbols : (names : List (List ℕ)) (ranked placed : List NumberedSymbol)
    → map (λ (p : NumberedSymbol). p.symbol) placed ≡ map (λ (p : NumberedSymbol). p.symbol) ranked
    → map (λ (p : NumberedSymbol). p.symbol) placed ≡ map (λ (n : NamedSymbol). n.symbol) (map (named_in names) ranked)
placed_symbols names ranked placed same = same ∙ sym (nested (named_in names) (λ (n : NamedSymbol). n.symbol) ranked)

pub numbered_by-placed-requires-clause-as_many : goal.numbered_by-placed-requires-clause-as_many
numbered_by-placed-requires-clause-as_many c =
    let ranked : List NumberedSymbol = c.in_ok-preferred.preferred.ranked.items in
    let keys = map (name_key c.args.lines.now.ranges.items c.args.lines.now.unknown) ranked in
    rw c.deref.ensures.value
    (c.in_ok-numbered.ensures.each.as_many
    ∙ length-map keys (function_named c.in_ok-preferred.preferred.names)
    ∙ length-map ranked (name_key c.args.lines.now.ranges.items c.args.lines.now.unknown))

pub numbered_by-placed-requires-clause-few : goal.numbered_by-placed-requires-clause-few
numbered_by-placed-requires-clause-few c =
    let functions : List Function = c.in_ok-numbered.numbered.functions in
    rw c.deref.ensures.value
    (All-weaker (λ n. n < length functions) (λ n. n < 2 ^ 32) (λ n lt. omega (arith, lt, c.in_ok-numbered.ensures.few))
    c.in_ok-numbered.numbered.numbers.items
    (all_there functions c.in_ok-numbered.numbered.numbers.items _ (length functions) c.in_ok-numbered.ensures.each refl))

pub symbol_spans-requires-clause-fall : goal.symbol_spans-requires-clause-fall
symbol_spans-requires-clause-fall c =
    let names = c.in_ok-preferred.preferred.names in
    let ranked : List NumberedSymbol = c.in_ok-preferred.preferred.ranked.items in
    rw c.deref-2.ensures.value
    (subst Fall (sym (placed_symbols names ranked c.numbered_by-placed.result.items
    c.numbered_by-placed.ensures.symbols))
    (values_fall (map (named_in names) ranked) c.in_ok-preferred.ensures.sorted))

pub symbol_spans-requires-clause-in_range : goal.symbol_spans-requires-clause-in_range
symbol_spans-requires-clause-in_range c =
    let names = c.in_ok-preferred.preferred.names in
    let ranked : List NumberedSymbol = c.in_ok-preferred.preferred.ranked.items in
    let placed : List NumberedSymbol = c.numbered_by-placed.result.items in
    rw c.deref-2.ensures.value
    (sections_within c.args.elf.now placed
    (limits_alike c.args.elf.now (map (named_in names) ranked) placed c.in_ok-preferred.ensures.all
    (placed_symbols names ranked placed c.numbered_by-placed.ensures.symbols)))

pub symbol_spans-requires-clause-same : goal.symbol_spans-requires-clause-same
symbol_spans-requires-clause-same c =
    let names = c.in_ok-preferred.preferred.names in
    let ranked : List NumberedSymbol = c.in_ok-preferred.preferred.ranked.items in
    let placed : List NumberedSymbol = c.numbered_by-placed.result.items in
    rw c.deref-2.ensures.value
    (limits_alike c.args.elf.now (map (named_in names) ranked) placed c.in_ok-preferred.ensures.all
    (placed_symbols names ranked placed c.numbered_by-placed.ensures.symbols))

pub returns : goal.returns
returns c =
    let names = c.in_ok-preferred.preferred.names in
    let ranked : List NumberedSymbol = c.in_ok-preferred.preferred.ranked.items in
    let placed : List NumberedSymbol = c.numbered_by-placed.result.items in
    let ranges = c.args.lines.now.ranges.items in
    let unknown = c.args.lines.now.unknown in
    let functions : List Function = c.in_ok-numbered.numbered.functions in
    let sorted : List NamedSymbol = map (named_in names) ranked in
    let symbols = placed_symbols names ranked placed c.numbered_by-placed.ensures.symbols in
    let funcs = rw c.deref.ensures.value at c.numbered_by-placed.ensures.numbers in
    let by_rank : map (function_named names) (map (name_key ranges unknown) ranked)
    ≡ map (key_of ranges unknown) sorted = functions_by_rank names ranges unknown ranked in
    let each = subst (NumberEach functions c.in_ok-numbered.numbered.numbers.items) by_rank
    c.in_ok-numbered.ensures.each in
    let alike = rw by_rank at c.in_ok-numbered.ensures.same in
    let number = c.in_ok-numbered.ensures.unknown in
    let spans = rw c.deref-2.ensures.value at c.in_ok-spans.ensures in
    are_symbols c.args.elf.now ranges unknown functions c.in_ok-numbered.numbered.numbers.items sorted placed
    c.in_ok-preferred.ensures.all c.in_ok-preferred.ensures.sorted c.in_ok-preferred.ensures.stable symbols funcs each
    c.in_ok-preferred.ensures.values c.in_ok-spans.spans.items c.in_ok-ranges.ranges.items
    c.in_ok-numbered.numbered.unknown c.in_ok-numbered.ensures.rise alike c.in_ok-numbered.ensures.few number spans
    c.in_ok-ranges.ensures
