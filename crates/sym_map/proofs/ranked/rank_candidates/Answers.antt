use Rattle.std.proofs.Common.{◌≡◌, ℕ, ◌<◌, ◌^◌, List, map, length, refl, sym, ap, subst, ◌∙◌, arith}
use Rattle.std.proofs.lemmas.List.{length-map}
use Rattle.std.proofs.lemmas.List.Elements.{All-weaker}
use Rattle.elf_read.specs.declared.symbol.Symbol.{Symbol}
use Rattle.elf_read.specs.Image.{Image}
use Rattle.sym_map.specs.Symbols.{candidates, symbol_name}
use Rattle.name_numbers.specs.declared.text_place.TextPlace.{TextPlace}
use Rattle.name_numbers.specs.Keys.{NumberEach}
use Rattle.sym_map.specs.inner.Naming.{place_of_text}
use Rattle.name_numbers.specs.Texts.{text_at}
use Rattle.sym_map.specs.inner.Naming.{NumberedSymbol, nameless}
use Rattle.sym_map.proofs.Numbers.{all_there}
use Rattle.sym_map.proofs.Numbers.{nested}
use Rattle.sym_map.proofs.RankOrder.{all_parted, all_within}
use Rattle.sym_map.proofs.ranked.rank_candidates.Goals as goal

abbrev symbol_of : NumberedSymbol → Symbol
symbol_of r = r.symbol

-- ranks of the texts at the candidates' places are numbers for their names
each_named : (image : Image) (names : List (List ℕ)) (ranks : List ℕ) (ranked : List NumberedSymbol)
    (places : List TextPlace) → map (λ (r : NumberedSymbol). r.number) ranked ≡ ranks
    → places ≡ map place_of_text (candidates image) → NumberEach names ranks (map (text_at image.bytes) places)
    → NumberEach names (map (λ (r : NumberedSymbol). r.number) ranked) (map (symbol_name image) (candidates image))
each_named image names ranks ranked places numbers at each =
    subst (λ (ns : List ℕ). NumberEach names ns (map (symbol_name image) (candidates image))) (sym numbers)
    (subst (NumberEach names ranks) (ap (map (text_at image.bytes)) at
    ∙ nested place_of_text (text_at image.bytes) (candidates image)) each)

pub numbered_by-ranked-requires-clause-as_many : goal.numbered_by-ranked-requires-clause-as_many
numbered_by-ranked-requires-clause-as_many c =
    let found : List NumberedSymbol = c.in_ok-candidates.field-0.candidates.items in
    let places : List TextPlace = c.in_ok-candidates.field-0.places.items in
    let long = length-map places (text_at c.file.result.now) in
    let wide : length places ≡ length (candidates c.args.elf.now) = ap length c.in_ok-candidates.ensures.places
    ∙ length-map (candidates c.args.elf.now) place_of_text in
    let all : length found ≡ length (candidates c.args.elf.now) = sym (length-map found symbol_of)
    ∙ ap length c.in_ok-candidates.ensures.all ∙ length-map (candidates c.args.elf.now) nameless in
    rw c.deref.ensures.value (c.in_ok-names.ensures.each.as_many ∙ long ∙ wide ∙ sym all)

pub numbered_by-ranked-requires-clause-few : goal.numbered_by-ranked-requires-clause-few
numbered_by-ranked-requires-clause-few c =
    let names = c.in_ok-names.field-0.names in
    rw c.deref.ensures.value
    (All-weaker (λ n. n < length names) (λ n. n < 2 ^ 32) (λ n lt.
    omega (arith, lt, c.in_ok-names.ensures.few, c.in_ok-candidates.ensures.few)) c.in_ok-names.field-0.ranks.items
    (all_there names c.in_ok-names.field-0.ranks.items _ (length names) c.in_ok-names.ensures.each refl))

pub returns-clause-few : goal.returns-clause-few
returns-clause-few c =
    let ranked : List NumberedSymbol = c.numbered_by-ranked.result.items in
    let places : List TextPlace = c.in_ok-candidates.field-0.places.items in
    let numbered = length-map ranked (λ (r : NumberedSymbol). r.number) in
    let numbers = ap length (c.numbered_by-ranked.ensures.numbers ∙ c.deref.ensures.value) in
    let long = length-map places (text_at c.file.result.now) in
    omega (arith, numbered, numbers, long, c.in_ok-names.ensures.each.as_many, c.in_ok-candidates.ensures.few)

pub returns-clause-all : goal.returns-clause-all
returns-clause-all c =
    let ranked : List NumberedSymbol = c.numbered_by-ranked.result.items in
    let each = subst (λ (file : List ℕ). NumberEach c.in_ok-names.field-0.names c.in_ok-names.field-0.ranks.items
    (map (text_at file) c.in_ok-candidates.field-0.places.items)) c.file.ensures.bytes c.in_ok-names.ensures.each in
    all_parted c.args.elf.now c.in_ok-names.field-0.names ranked (candidates c.args.elf.now)
    (c.numbered_by-ranked.ensures.symbols ∙ c.in_ok-candidates.ensures.all)
    (each_named c.args.elf.now c.in_ok-names.field-0.names c.in_ok-names.field-0.ranks.items ranked
    c.in_ok-candidates.field-0.places.items (c.numbered_by-ranked.ensures.numbers ∙ c.deref.ensures.value)
    c.in_ok-candidates.ensures.places each)

pub returns-clause-each : goal.returns-clause-each
returns-clause-each c =
    let ranked : List NumberedSymbol = c.numbered_by-ranked.result.items in
    let each = subst (λ (file : List ℕ). NumberEach c.in_ok-names.field-0.names c.in_ok-names.field-0.ranks.items
    (map (text_at file) c.in_ok-candidates.field-0.places.items)) c.file.ensures.bytes c.in_ok-names.ensures.each in
    all_within c.in_ok-names.field-0.names ranked (map (symbol_name c.args.elf.now) (candidates c.args.elf.now))
    (each_named c.args.elf.now c.in_ok-names.field-0.names c.in_ok-names.field-0.ranks.items ranked
    c.in_ok-candidates.field-0.places.items (c.numbered_by-ranked.ensures.numbers ∙ c.deref.ensures.value)
    c.in_ok-candidates.ensures.places each)
