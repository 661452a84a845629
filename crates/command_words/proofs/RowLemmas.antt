-- The code's tables as data.
use Rattle.std.proofs.Common.{◌≡◌, ◌∙◌, ◌&&◌, Bool, true, false, cond, List, [], ◌∷◌, refl, ap, Option, Some, map, Bor}
use Rattle.std.proofs.Common.{codes}
use Rattle.std.specs.Prelude.{filter, find, option_map}
use Rattle.std.specs.List.{list_all, list_any}
use Rattle.std.specs.Option.{option_map_or}
use Rattle.std.specs.Str.{bytes_eq}
use Rattle.event_costs.specs.Costs.{event_names, events_shown}
use Rattle.sorted_words.specs.Sorting.{Text, is_among}
use Rattle.command_words.specs.Request.{Uses, are_fine, command_named, first, is_fine, says, sort_is_shown}
use Rattle.command_words.specs.Rows.{command_of, row_of, takers_of}
use Rattle.command_words.specs.Table.{Command, Row, includes, name_of, rows_of, table}
use Rattle.command_words.specs.declared.table.Command as code_command
use Rattle.command_words.specs.declared.table.Command.TheVariants as command
use Rattle.command_words.specs.declared.table.OptionRow as code_row
use Rattle.command_words.proofs.ValueLemmas.{any_mapped}

all_mapped : (taker : Command) (given : Uses) (rows : List code_row.OptionRow)
    → list_all (λ row. is_fine (row_of row) given) (filter (λ row. includes (takers_of row.takers) taker) rows)
    ≡ list_all (λ row. is_fine row given) (filter (λ row. includes row.takers taker) (map row_of rows))
all_mapped taker given [] = refl
all_mapped taker given (row ∷ rows) = go (includes (takers_of row.takers) taker) (all_mapped taker given rows)
  where
    go : (b : Bool) → list_all (λ r. is_fine (row_of r) given) (filter (λ r. includes (takers_of r.takers) taker) rows)
        ≡ list_all (λ r. is_fine r given) (filter (λ r. includes r.takers taker) (map row_of rows))
        → list_all (λ r. is_fine (row_of r) given)
        (cond b (row ∷ filter (λ r. includes (takers_of r.takers) taker) rows)
        (filter (λ r. includes (takers_of r.takers) taker) rows))
        ≡ list_all (λ r. is_fine r given) (cond b (row_of row ∷ filter (λ r. includes r.takers taker) (map row_of rows))
        (filter (λ r. includes r.takers taker) (map row_of rows)))
    go true more = ap (λ (b : Bool). is_fine (row_of row) given && b) more
    go false more = more

-- the rows of the code are those of the table
pub all_fine : (taker : Command) (given : Uses) (rows : List code_row.OptionRow) → map row_of rows ≡ table
    → list_all (λ row. is_fine (row_of row) given) (filter (λ row. includes (takers_of row.takers) taker) rows)
    ≡ are_fine taker given
all_fine taker given rows is =
    all_mapped taker given rows
    ∙ ap (λ (xs : List Row). list_all (λ row. is_fine row given) (filter (λ row. includes row.takers taker) xs)) is

map_names : (taker : Command) (rows : List code_row.OptionRow)
    → map (λ row. row.name.now) (filter (λ row. includes (takers_of row.takers) taker) rows)
    ≡ map (λ row. row.name) (filter (λ row. includes row.takers taker) (map row_of rows))
map_names taker [] = refl
map_names taker (row ∷ rows) = go (includes (takers_of row.takers) taker) (map_names taker rows)
  where
    go : (b : Bool) → map (λ r. r.name.now) (filter (λ r. includes (takers_of r.takers) taker) rows)
        ≡ map (λ r. r.name) (filter (λ r. includes r.takers taker) (map row_of rows))
        → map (λ r. r.name.now) (cond b (row ∷ filter (λ r. includes (takers_of r.takers) taker) rows)
        (filter (λ r. includes (takers_of r.takers) taker) rows))
        ≡ map (λ r. r.name) (cond b (row_of row ∷ filter (λ r. includes r.takers taker) (map row_of rows))
        (filter (λ r. includes r.takers taker) (map row_of rows)))
    go true more = ap (λ (xs : List Text). row.name.now ∷ xs) more
    go false more = more

pub names_mapped : (taker : Command) (rows : List code_row.OptionRow) → map row_of rows ≡ table
    → map (λ row. row.name.now) (filter (λ row. includes (takers_of row.takers) taker) rows)
    ≡ map (λ row. row.name) (rows_of taker)
names_mapped taker rows is =
    map_names taker rows
    ∙ ap (λ (xs : List Row). map (λ row. row.name) (filter (λ row. includes row.takers taker) xs)) is

find_mapped : (name : Text) (xs : List code_command.Command)
    → option_map command_of (find (λ c. bytes_eq (name_of (command_of c)) name) xs)
    ≡ find (λ c. bytes_eq (name_of c) name) (map command_of xs)
find_mapped name [] = refl
find_mapped name (x ∷ xs) = go (bytes_eq (name_of (command_of x)) name) (find_mapped name xs)
  where
    go : (b : Bool) → option_map command_of (find (λ c. bytes_eq (name_of (command_of c)) name) xs)
        ≡ find (λ c. bytes_eq (name_of c) name) (map command_of xs)
        → option_map command_of (cond b (Some x) (find (λ c. bytes_eq (name_of (command_of c)) name) xs))
        ≡ cond b (Some (command_of x)) (find (λ c. bytes_eq (name_of c) name) (map command_of xs))
    go true more = refl
    go false more = more

pub named_is : (name : Text)
    → option_map command_of
    (find (λ c. bytes_eq (name_of (command_of c)) name)
    (command.Run ∷ command.Report ∷ command.Annotate ∷ command.Demo ∷ []))
    ≡ command_named name
named_is name = find_mapped name (command.Run ∷ command.Report ∷ command.Annotate ∷ command.Demo ∷ [])

-- the event of `--sort`, looked up among those shown
pub sort_shown : (result branches : Bool) (shown : List (Bor Text)) (event : Text) (given : Uses)
    → Some event ≡ first (given (codes "sort"))
    → branches ≡ says (codes "yes") (given (codes "branch-sim"))
    → map (λ name. name.now) shown ≡ events_shown branches event_names
    → result ≡ list_any (λ word. bytes_eq word.now event) shown → result ≡ sort_is_shown given
sort_shown result branches shown event given sorted says_is names is =
    is ∙ any_mapped shown event
    ∙ ap (λ (xs : List Text). is_among xs event) (names ∙ ap (λ (b : Bool). events_shown b event_names) says_is)
    ∙ ap (λ (o : Option Text). option_map_or
    (is_among (events_shown (says (codes "yes") (given (codes "branch-sim"))) event_names)) o true) sorted
