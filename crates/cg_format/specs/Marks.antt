-- The lines of a part below its heading, and their text (Valgrind manual, Callgrind Format Specification, version 1:
-- body lines, name compression). A history is a list of lines, the newest first; ids look back to it.
use Rattle.std.specs.Prelude.{ℕ, ◌+◌, Bool, ◌==◌, if◌then◌else◌, List, [], ◌∷◌, ◌++◌, codes, decimal, flat_map}
use Rattle.std.specs.List.{list_any, position_or_len}
use Rattle.event_costs.specs.declared.numbers.FileId.{FileId}
use Rattle.event_costs.specs.declared.numbers.FuncId.{FuncId}
use Rattle.sym_map.specs.SymbolMap.{SymbolMap, file_text, identity_of}
use Rattle.cg_format.specs.declared.file_key.FileKey.{FileKey}
use Rattle.cg_format.specs.declared.file_key.FileKey.TheVariants.{Home, Other, Back, OfCallee}

-- What a line says, with files and functions by their numbers.
pub data Mark : Type 0 where
  -- a line without files and functions
  Plain : List ℕ → Mark
  -- a file: that of a function, another one, the function's again, or a callee's
  File : FileKey → FileId → Mark
  Function : FuncId → Mark
  Callee : FuncId → Mark
  -- how often the callee was called, and the line of its entry
  Calls : ℕ → ℕ → Mark
  -- a line number with its costs
  Costs : ℕ → List ℕ → Mark

-- Ids

abbrev pub is_in : List ℕ → ℕ → Bool
is_in written number = list_any (λ other. number == other) written

abbrev pub add_number : List ℕ → ℕ → List ℕ
add_number written number = if is_in written number then written else written ++ number ∷ []

-- the files and the functions written so far, in the order of first writing
abbrev pub files : List Mark → List ℕ
files [] = []
files (File key file ∷ before) = add_number (files before) file.0
files (_ ∷ before) = files before

abbrev pub functions : List Mark → List ℕ
functions [] = []
functions (Function function ∷ before) = add_number (functions before) function.0
functions (Callee function ∷ before) = add_number (functions before) function.0
functions (_ ∷ before) = functions before

-- ids count from 1 in the order of first writing
abbrev pub id : List ℕ → ℕ → ℕ
id written number = position_or_len (λ other. number == other) written + 1

-- an id, with the name where it is written for the first time
abbrev pub id_text : List ℕ → ℕ → List ℕ → List ℕ
id_text written number name =
    codes "(" ++ decimal (id written number) ++ codes ")" ++ (if is_in written number then [] else codes " " ++ name)

-- Lines

-- texts, and numbers, each after a space
abbrev pub words_text : List (List ℕ) → List ℕ
words_text texts = flat_map (λ text. codes " " ++ text) texts

abbrev pub cost_text : List ℕ → List ℕ
cost_text costs = flat_map (λ n. codes " " ++ decimal n) costs

abbrev pub key_text : FileKey → List ℕ
key_text Home = codes "fl="
key_text Other = codes "fi="
key_text Back = codes "fe="
key_text OfCallee = codes "cfi="

-- the line that says this after these lines
abbrev pub mark_text : SymbolMap → List Mark → Mark → List ℕ
mark_text m before (Plain text) = text
mark_text m before (File key file) = key_text key ++ id_text (files before) file.0 (file_text m file)
mark_text m before (Function function) = codes "fn=" ++ id_text (functions before) function.0 (identity_of m function).name
mark_text m before (Callee function) = codes "cfn=" ++ id_text (functions before) function.0 (identity_of m function).name
mark_text m before (Calls calls line) = codes "calls=" ++ decimal calls ++ codes " " ++ decimal line
mark_text m before (Costs line costs) = decimal line ++ cost_text costs

-- the text of a history: each line ends with a line feed
abbrev pub text_of : SymbolMap → List Mark → List ℕ
text_of m [] = []
text_of m (mark ∷ before) = text_of m before ++ mark_text m before mark ++ codes "\n"
