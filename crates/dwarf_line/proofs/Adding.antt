-- A unit that was read in full is accepted and added.
use Rattle.std.proofs.Common.{◌≡◌, ℕ, ◌+◌, List, ◌++◌, length, map, Option, Some, None, option_map, refl}
use Rattle.std.proofs.lemmas.List.{length-map}
use Rattle.dwarf_line.specs.declared.registers.Registers.{Registers}
use Rattle.dwarf_line.specs.Entry.{TableEntry, StringSections}
use Rattle.dwarf_line.specs.UnitContents.{UnitContents}
use Rattle.dwarf_line.specs.Bytes.{◌>>=◌}
use Rattle.dwarf_line.specs.Program.{SequenceOf, sequence_by, program_sequences}
use Rattle.dwarf_line.specs.inner.Matrix.{OpenMatrix, numbered_row, Grows}
use Rattle.dwarf_line.specs.FileText.{file_text}
use Rattle.dwarf_line.specs.Unit.{unit_of, contents_of}
use Rattle.dwarf_line.specs.inner.Building.{Building, Adds}

grown_by : (contents : UnitContents) (old : Building) (matrix : OpenMatrix) (texts : List (List ℕ))
    (sequences : Option (List (SequenceOf Registers)))
    → Grows (option_map (map (sequence_by (numbered_row (length old.files) (length contents.files)))) sequences)
    old.matrix matrix → texts ≡ old.files ++ map (file_text contents.directories) contents.files
    → Adds (sequences >>= λ sequences. Some
    (record { files = map (file_text contents.directories) contents.files; sequences = sequences })) old
    (record { matrix = matrix; files = texts; unit_count = old.unit_count + 1 })
grown_by contents old matrix texts None grows texts_are = absurd grows
grown_by contents old matrix texts (Some sequences) grows texts_are =
    rw (grows, texts_are, length-map contents.files (file_text contents.directories)) refl

pub adds : (sections : StringSections) (body : List ℕ) (contents : UnitContents) (old : Building) (matrix : OpenMatrix)
    (texts : List (List ℕ)) (before count : ℕ) (directories files : List TableEntry)
    → contents_of sections body ≡ Some contents → before ≡ length old.files → count ≡ length contents.files
    → directories ≡ contents.directories → files ≡ contents.files
    → Grows (option_map (map (sequence_by (numbered_row before count)))
    (program_sequences contents.constants contents.program)) old.matrix matrix
    → texts ≡ old.files ++ map (file_text directories) files
    → Adds (unit_of sections body) old (record { matrix = matrix; files = texts; unit_count = old.unit_count + 1 })
unfolding unit_of
adds sections body contents old matrix texts before count directories files read b c d f grows texts_are =
    let grows' = rw (b, c) at grows in
    let texts' = rw (d, f) at texts_are in
    rw read (grown_by contents old matrix texts (program_sequences contents.constants contents.program) grows' texts')
