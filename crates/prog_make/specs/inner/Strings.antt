-- Tables of strings (gABI, String Table): each string ends with a zero byte, and the empty one stands in front.
use Rattle.std.specs.Prelude.{ℕ, List, [], ◌∷◌, ◌++◌, codes}
use Rattle.std.specs.List.{flat_map}
use Rattle.prog_make.specs.declared.function_part.FunctionPart.{FunctionPart}

abbrev pub with_zero : List ℕ → List ℕ
with_zero text = text ++ 0 ∷ []

-- the names of functions
abbrev pub name_strings : List FunctionPart → List ℕ
name_strings functions = 0 ∷ flat_map (λ f. with_zero f.name) functions

-- where the names of the sections of lines, symbols, symbols' names, sections' names, code and data begin among these
abbrev pub lines_name : ℕ
lines_name = 1

abbrev pub symbols_name : ℕ
symbols_name = 13

abbrev pub strings_name : ℕ
strings_name = 21

abbrev pub names_name : ℕ
names_name = 29

abbrev pub text_name : ℕ
text_name = 39

abbrev pub data_name : ℕ
data_name = 45

-- how many bytes the names of sections are
abbrev pub section_strings_len : ℕ
section_strings_len = 51

-- the names of sections
unfoldable pub section_strings : List ℕ
section_strings = 0 ∷ (with_zero (codes ".debug_line") ++
    (with_zero (codes ".symtab") ++ (with_zero (codes ".strtab") ++
    (with_zero (codes ".shstrtab") ++ (with_zero (codes ".text") ++ with_zero (codes ".data"))))))
