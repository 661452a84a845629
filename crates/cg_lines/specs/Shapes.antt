-- What a line says by itself.
use Rattle.std.specs.Prelude.{ℕ, Bool, true, false, not, ◌||◌, ◌&&◌, ◌==◌, if◌then◌else◌, List, [], ◌∷◌, length, take}
use Rattle.std.specs.Prelude.{drop, codes, Option, None, Some, option_map}
use Rattle.std.specs.Char.{is_ascii_digit, is_ascii_alphabetic}
use Rattle.std.specs.List.{prefix_len, take_while, before_first, after_first}
use Rattle.std.specs.Str.{bytes_eq}
use Rattle.cg_lines.specs.Lines.{is_space, without_front, trim, strip, words}
use Rattle.cg_lines.specs.Numbers.{number_of}
use Rattle.cg_lines.specs.declared.number.Number.{Number}
use Rattle.cg_lines.specs.declared.sub_position.SubPosition.{SubPosition}
use Rattle.cg_lines.specs.declared.sub_position.SubPosition.TheVariants.{At, Ahead, Back, Same}
use Rattle.cg_lines.specs.declared.name.Name.{Name}
use Rattle.cg_lines.specs.declared.name.Name.TheVariants.{Plain, Id, Named}
use Rattle.cg_lines.specs.declared.line.Field.{Field}
use Rattle.cg_lines.specs.declared.line.Field.TheVariants as field
use Rattle.cg_lines.specs.declared.line.Line.{Line}
use Rattle.cg_lines.specs.declared.line.Line.TheVariants.{Blank, Header, Command, Events, Positions, Object, File}
use Rattle.cg_lines.specs.declared.line.Line.TheVariants.{Function, CalleeObject, CalleeFile, Callee, Calls, BadCalls}
use Rattle.cg_lines.specs.declared.line.Line.TheVariants.{Cost, BadCost, Jump, Bad}

-- Positions: a number, + or - and a number, or *

abbrev pub sub_position_of : List ℕ → Option SubPosition
sub_position_of [] = None
sub_position_of (b ∷ rest) =
    if b == 42 then (if length rest == 0 then Some Same else None)
    else if b == 43 then option_map Ahead (number_of rest)
    else if b == 45 then option_map Back (number_of rest)
    else option_map At (number_of (b ∷ rest))

-- Names: (ID), (ID) TEXT, or any other text

-- two ids are the same where their digits are equal but for leading zeros
abbrev pub id_of : List ℕ → List ℕ
id_of digits = without_front (λ b. b == 48) digits

abbrev pub name_with_id : List ℕ → List ℕ → Name
name_with_id id [] = Id id
name_with_id id (b ∷ text) = Named id (b ∷ text)

-- the name whose digits and whose rest, from the closing bracket on, are these
abbrev pub bracketed_name : List ℕ → List ℕ → List ℕ → Name
bracketed_name value digits [] = Plain value
bracketed_name value digits (b ∷ rest) =
    if b == 41 && not (length digits == 0) then name_with_id (id_of digits) (without_front is_space rest)
    else Plain value

abbrev pub name_of : List ℕ → Name
name_of [] = Plain []
name_of (b ∷ rest) =
    let n = prefix_len is_ascii_digit rest in
    if b == 40 then bracketed_name (b ∷ rest) (take n rest) (drop n rest) else Plain (b ∷ rest)

-- Lines with an equals sign

abbrev pub is_jump : List ℕ → Bool
is_jump key =
    bytes_eq key (codes "jump") || bytes_eq key (codes "jcnd") || bytes_eq key (codes "jfi")
    || bytes_eq key (codes "jfl")
    || bytes_eq key (codes "jfn") || bytes_eq key (codes "job")

abbrev pub is_file_key : List ℕ → Bool
is_file_key key = bytes_eq key (codes "fl") || bytes_eq key (codes "fi") || bytes_eq key (codes "fe")

abbrev pub field_of : List ℕ → Option Field
field_of key =
    if bytes_eq key (codes "ob") then Some field.Object
    else if is_file_key key then Some field.File
    else if bytes_eq key (codes "fn") then Some field.Function
    else if bytes_eq key (codes "cob") then Some field.CalleeObject
    else if bytes_eq key (codes "cfi") || bytes_eq key (codes "cfl") then Some field.CalleeFile
    else if bytes_eq key (codes "cfn") then Some field.Callee
    else None

abbrev pub field_line : Option Field → Name → Line
field_line None name = Bad
field_line (Some field.Object) name = Object name
field_line (Some field.File) name = File name
field_line (Some field.Function) name = Function name
field_line (Some field.CalleeObject) name = CalleeObject name
field_line (Some field.CalleeFile) name = CalleeFile name
field_line (Some field.Callee) name = Callee name

-- the value is never empty
abbrev pub naming : List ℕ → List ℕ → Line
naming key [] = Bad
naming key (b ∷ value) = field_line (field_of key) (name_of (b ∷ value))

-- a number and a position
abbrev pub calls_with : Option Number → Option SubPosition → Line
calls_with None place = BadCalls
calls_with (Some n) None = BadCalls
calls_with (Some n) (Some place) = Calls n place

abbrev pub calls_line : List (List ℕ) → Line
calls_line [] = BadCalls
calls_line (n ∷ []) = BadCalls
calls_line (n ∷ place ∷ []) = calls_with (number_of n) (sub_position_of place)
calls_line (n ∷ place ∷ more ∷ rest) = BadCalls

abbrev pub assignment : List ℕ → List ℕ → Line
assignment key value =
    if is_jump key then Jump else if bytes_eq key (codes "calls") then calls_line (words value) else naming key value

-- Lines with letters and a colon

abbrev pub header : List ℕ → List ℕ → Line
header key value =
    if length key == 0 then Bad
    else if bytes_eq key (codes "events") then Events value
    else if bytes_eq key (codes "positions") then Positions value
    else if bytes_eq key (codes "cmd") then Command (trim value)
    else Header

-- what letters and the rest of their line say
abbrev pub key_line : List ℕ → List ℕ → Line
key_line key [] = Bad
key_line key (b ∷ value) = if b == 58 then header key value else if b == 61 then assignment key value else Bad

-- Cost lines

-- the first byte of a position
abbrev pub begins_position : ℕ → Bool
begins_position b = is_ascii_digit b || b == 42 || b == 43 || b == 45

abbrev pub cost_with : Option SubPosition → List ℕ → Line
cost_with None costs = BadCost
cost_with (Some place) costs = Cost place costs

abbrev pub cost_line : List ℕ → Line
cost_line text = cost_with (sub_position_of (before_first is_space text)) (after_first is_space text)

-- what a line says once its ends are stripped
abbrev pub shape : List ℕ → Line
shape [] = Blank
shape (b ∷ rest) =
    let text = b ∷ rest in
    if b == 35 then Blank
    else if begins_position b then cost_line text
    else key_line (take_while is_ascii_alphabetic text) (drop (prefix_len is_ascii_alphabetic text) text)

abbrev pub line_of : List ℕ → Line
line_of line = shape (strip line)

-- Kinds of lines

abbrev pub is_blank_line : Line → Bool
is_blank_line Blank = true
is_blank_line _ = false

-- what may stand between a call and its cost line, and that line itself
abbrev pub follows_call : Line → Bool
follows_call Blank = true
follows_call (Cost place costs) = true
follows_call _ = false

abbrev pub is_cost : Line → Bool
is_cost (Cost place costs) = true
is_cost _ = false

abbrev pub is_positions : Line → Bool
is_positions (Positions text) = true
is_positions _ = false
