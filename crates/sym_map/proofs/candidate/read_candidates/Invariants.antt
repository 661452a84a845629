use Rattle.std.proofs.Common.{◌≡◌, ◌<◌, ◌≤◌, ◌^◌, length, take, map}
use Rattle.std.specs.Prelude.{All, filter}
use Rattle.elf_read.specs.declared.symbol.Symbol.{Symbol}
use Rattle.sym_map.specs.Symbols.{is_candidate}
use Rattle.sym_map.specs.inner.Naming.{place_of_text}
use Rattle.name_numbers.specs.Texts.{IsInFile}
use Rattle.sym_map.specs.inner.Naming.{NumberedSymbol, nameless}
use Rattle.sym_map.proofs.candidate.read_candidates.Given as goal

abbrev pub invariant-symbols : goal.invariant-symbols
invariant-symbols l = record {
  all : map (λ (c : NumberedSymbol). c.symbol) l.candidates.items
      ≡ map nameless (filter (is_candidate l.elf) (take l.i l.elf.symbols));
  places : l.places.items ≡ map place_of_text (filter (is_candidate l.elf) (take l.i l.elf.symbols));
  values : All (λ (s : Symbol). s.value < 2 ^ 32) (filter (is_candidate l.elf) (take l.i l.elf.symbols));
  in_file : All (IsInFile l.elf.bytes) l.places.items;
  few : length l.places.items ≤ l.i;
}
