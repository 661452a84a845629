use Rattle.std.proofs.Common.{◌≡◌, ◌+◌, ◌*◌, ◌≤◌, length, None, IsTrue, refl, sym, ap, subst, ◌∙◌}
use Rattle.std.specs.List.{list_any}
use Rattle.elf_read.specs.Checks.{whole_fault}
use Rattle.elf_read.specs.Standard.{header_len, symbol_len}
use Rattle.elf_read.specs.Overlaps.{IsApart, apart_fault}
use Rattle.elf_read.specs.declared.header.FileHeader.{FileHeader}
use Rattle.elf_read.specs.Header.{header_of}
use Rattle.elf_read.specs.Programs.{entry_fault, is_code, segments_of}
use Rattle.elf_read.specs.Refusal.{refusal}
use Rattle.elf_read.specs.declared.text.Range.{Range}
use Rattle.elf_read.specs.inner.Tables.{StringTable}
use Rattle.elf_read.proofs.SectionLemmas.{sections_are_whole, sections_are_held, symbols_are_whole}
use Rattle.elf_read.proofs.elf.read.Goals as goal

pub invariant_of-result : goal.invariant_of-result
unfolding refusal
invariant_of-result c =
    let b = c.args.bytes.now in
    let found = c.deref.ensures.value ∙ c.in_ok-segments.ensures.segments in
    let found_again = c.deref-2.ensures.value ∙ c.in_ok-segments.ensures.segments in
    let at_segments : apart_fault (segments_of b) ≡ None = ap apart_fault (sym found)
    ∙ c.in_ok-check_apart.ensures.fault in
    let at_entry : entry_fault (header_of b).entry (segments_of b) ≡ None =
    ap (λ (h : FileHeader). entry_fault h.entry (segments_of b)) (sym c.file_header-header.ensures)
    ∙ ap (entry_fault c.file_header-header.result.entry) (sym found_again) ∙ c.in_ok-check_entry.ensures.fault in
    let at_header : whole_fault b header_len ≡ None = ap (whole_fault b) (sym c.from.ensures)
    ∙ c.in_ok-check_whole.ensures in
    record {
      accepted =
          rw (
            at_header,
            c.in_ok-check_magic.ensures,
            c.in_ok-check_kind.ensures,
            c.in_ok-check_programs_whole.ensures,
            c.in_ok-segments.ensures.fault,
            at_segments,
            c.in_ok-check_sections_whole.ensures,
            c.in_ok-check_sections.ensures,
            at_entry,
          ) refl;
      header_is = c.file_header-header.ensures;
      segments_are = c.in_ok-segments.ensures.segments;
      names_are = c.in_ok-names.ensures
          ∙ ap (λ (r : Range). let t : StringTable = record { bytes = b; range = r } in
          t) c.section_names-names.ensures.names;
      symbols_are = c.symbol_table-symbols.ensures.table;
      symbol_names_are = c.in_ok-symbol_names.ensures;
      entry_aligned = c.in_ok-check_entry.ensures.aligned;
      entry_in_code =
          subst (λ xs. IsTrue (list_any (is_code c.file_header-header.result.entry) xs)) c.deref-2.ensures.value
          c.in_ok-check_entry.ensures.code;
      apart = subst IsApart c.deref.ensures.value c.in_ok-check_apart.ensures.apart;
      segments_placed = c.in_ok-segments.ensures.placed;
      sections_whole = sections_are_whole b c.in_ok-check_sections_whole.ensures;
      sections_held = sections_are_held b c.in_ok-check_sections.ensures;
      names_in_file = subst (λ (t : StringTable). t.range.end ≤ length b) (sym c.in_ok-names.ensures)
          c.section_names-names.ensures.in_file;
      symbols_whole = subst (λ t. t.place + symbol_len * t.count ≤ length b) (sym c.symbol_table-symbols.ensures.table)
          (symbols_are_whole b c.in_ok-check_sections.ensures);
      symbol_names_in_file = c.symbol_table-symbols.ensures.in_file;
      few_symbols = c.symbol_table-symbols.ensures.few;
    }

pub returns-clause-apart : goal.returns-clause-apart
returns-clause-apart c =
    subst IsApart (c.deref.ensures.value ∙ c.in_ok-segments.ensures.segments) c.in_ok-check_apart.ensures.apart
