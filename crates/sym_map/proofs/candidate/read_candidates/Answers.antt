use Rattle.std.proofs.Common.{◌≡◌, ℕ, ◌∷◌, [], ◌++◌, List, length, map, true, false, sym, ap, subst, ◌<◌, ◌^◌, ◌∙◌, arith}
use Rattle.std.proofs.Common.{take, ◌+◌}
use Rattle.std.specs.Prelude.{All, filter}
use Rattle.std.proofs.lemmas.List.Elements.{All-push}
use Rattle.std.proofs.lemmas.List.{append-nil, length_push, map_push}
use Rattle.elf_read.specs.declared.symbol.Symbol.{Symbol}
use Rattle.sym_map.specs.Symbols.{is_candidate}
use Rattle.name_numbers.specs.declared.text_place.TextPlace.{TextPlace}
use Rattle.sym_map.specs.inner.Naming.{place_of_text}
use Rattle.name_numbers.specs.Texts.{IsInFile}
use Rattle.sym_map.specs.inner.Naming.{NumberedSymbol, nameless}
use Rattle.sym_map.proofs.Preference.{candidates_more}
use Rattle.sym_map.proofs.candidate.read_candidates.Goals as goal
use Rattle.sym_map.proofs.candidate.read_candidates.Goals.{then-is_candidate+in_ok-push+in_ok-push-2, else-is_candidate}

abbrev symbol_of : NumberedSymbol → Symbol
symbol_of c = c.symbol

pub symbols-preserved : goal.symbols-preserved
symbols-preserved c =
    let symbol : Symbol = c.symbol-symbol.result in
    let bytes : List ℕ = c.args.elf.now.bytes in
    let front : List Symbol = filter (is_candidate c.args.elf.now) (take c.symbols.i c.args.elf.now.symbols) in
    let longer : List Symbol = filter (is_candidate c.args.elf.now) (take (c.symbols.i + 1) c.args.elf.now.symbols) in
    elim c.if-is_candidate.branch [
      | then-is_candidate+in_ok-push+in_ok-push-2 w ↦
          let more : longer ≡ front ++ symbol ∷ [] =
          candidates_more c.args.elf.now c.args.elf.now.symbols c.symbols.i symbol true
          c.symbol-symbol.ensures.symbol (sym c.is_candidate.ensures ∙ w.if-is_candidate.true) in
          let candidates : c.if-is_candidate.candidates.items ≡ c.symbols.candidates.items ++ w.new.result ∷ [] =
          ap (λ v. v.items) w.candidates-is ∙ w.in_ok-push.ensures.items in
          let places : c.if-is_candidate.places.items ≡ c.symbols.places.items ++ place_of_text symbol ∷ [] =
          ap (λ v. v.items) w.places-is ∙ w.in_ok-push-2.ensures.items
          ∙ ap (λ (p : TextPlace). c.symbols.places.items ++ p ∷ []) w.place_of.ensures in
          record {
            all = ap (map symbol_of) candidates ∙ map_push symbol_of c.symbols.candidates.items w.new.result
                ∙ ap (λ (n : NumberedSymbol). map symbol_of c.symbols.candidates.items ++ n.symbol ∷ []) w.new.ensures
                ∙ ap (λ (ss : List Symbol). ss ++ nameless symbol ∷ []) c.symbols.invariant.all
                ∙ sym (ap (map nameless) more ∙ map_push nameless front symbol);
            places = places ∙ ap (λ (ps : List TextPlace). ps ++ place_of_text symbol ∷ []) c.symbols.invariant.places
                ∙ sym (ap (map place_of_text) more ∙ map_push place_of_text front symbol);
            values = subst (All (λ (s : Symbol). s.value < 2 ^ 32)) (sym more)
                (All-push (λ (s : Symbol). s.value < 2 ^ 32) front symbol c.symbols.invariant.values
                (omega (arith, c.symbol-symbol.type_inv)));
            in_file = subst (All (IsInFile bytes)) (sym places)
                (All-push (IsInFile bytes) c.symbols.places.items (place_of_text symbol)
                c.symbols.invariant.in_file c.symbol-symbol.ensures.name_in_file);
            few = let long = ap length places ∙ length_push c.symbols.places.items (place_of_text symbol) in
                omega (arith, long, c.symbols.invariant.few);
          }
      | else-is_candidate w ↦
          let same : longer ≡ front =
          candidates_more c.args.elf.now c.args.elf.now.symbols c.symbols.i symbol false
          c.symbol-symbol.ensures.symbol (sym c.is_candidate.ensures ∙ w.if-is_candidate.false)
          ∙ append-nil front in
          record {
            all = ap (λ v. map symbol_of v.items) w.candidates-is ∙ c.symbols.invariant.all
                ∙ sym (ap (map nameless) same);
            places = ap (λ v. v.items) w.places-is ∙ c.symbols.invariant.places ∙ sym (ap (map place_of_text) same);
            values = subst (All (λ (s : Symbol). s.value < 2 ^ 32)) (sym same) c.symbols.invariant.values;
            in_file = subst (All (IsInFile bytes)) (sym (ap (λ v. v.items) w.places-is)) c.symbols.invariant.in_file;
            few = let same = ap (λ v. length v.items) w.places-is in omega (arith, same, c.symbols.invariant.few);
          }
    ]
