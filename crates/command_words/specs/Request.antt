-- What the words of a command line ask for.
use Rattle.std.specs.Prelude.{ℕ, ◌^◌, ◌&&◌, ◌||◌, Bool, true, false, nat_le, nat_lt}
use Rattle.std.specs.Prelude.{if◌then◌else◌, List, [], ◌∷◌, Option}
use Rattle.std.specs.Prelude.{Some, None, codes, find, is_some, length, map, not, option_and_then, slice_get, unwrap_or}
use Rattle.std.specs.List.{list_all}
use Rattle.std.specs.Option.{option_map_or}
use Rattle.std.specs.Str.{bytes_eq}
use Rattle.cache_lru.specs.Shape.{Shape}
use Rattle.event_costs.specs.Costs.{event_names, events_shown}
use Rattle.sorted_words.specs.Sorting.{SortedCommand, Syntax, Text, is_among, sorting, uses}
use Rattle.command_words.specs.Table.{Command, Row, commands, name_of, rows_of, syntax_of}
use Rattle.command_words.specs.Table as table
use Rattle.command_words.specs.Values.{accepts, is_between, number, shape_of, small_number}

-- ---- what can be asked for

-- what a run counts besides its parts
pub data Watching : Type 0 where
  Nothing : Watching
  -- what waiting costs
  Waits : Watching
  -- what each function costs by so many of its callers
  Contexts : ℕ → Watching
  -- what each instruction costs, by its address
  Addresses : Watching

-- what the positions of a run's parts are
pub data Positions : Type 0 where
  Line : Positions
  AddressAndLine : Positions

-- what a run counts that puts such parts
abbrev pub watching_at : Positions → Watching
watching_at Line = Nothing
watching_at AddressAndLine = Addresses

-- a program to be run, and how
pub record Job : Type 0 where
  -- what the names of its files begin with
  pub base : Text
  -- the file that the guest reads, if any
  pub input : Option Text
  -- the most steps
  pub budget : ℕ
  -- the most steps of a turn, and what draws them, if anything does
  pub quantum : ℕ
  pub seed : Option ℕ
  -- the caches of instructions, of data and of the last level
  pub i1 : Shape
  pub d1 : Shape
  pub ll : Shape
  -- after how many steps, and before and after which function, a part is put
  pub every : Option ℕ
  pub before : Option Text
  pub after : Option Text
  -- branches are counted
  pub branches : Bool
  -- the program's name, and its arguments
  pub args : List Text

-- whose callers and callees a report shows
pub data Tree : Type 0 where
  Off : Tree
  Caller : Tree
  Calling : Tree
  Both : Tree

-- what a report shows
pub record View : Type 0 where
  -- the event that the functions are sorted by, where it isn't the first
  pub sort : Option Text
  -- in percent
  pub threshold : ℕ
  pub tree : Tree
  -- sources are shown
  pub auto : Bool

pub data Request : Type 0 where
  -- with what the run counts besides its parts
  Run : Job → Watching → Request
  -- on parts with these positions
  Report : Job → Positions → View → Request
  -- the names of the files
  Annotate : List Text → View → Request
  Demo : ℕ → Request
  -- any other list of words
  Usage : Request

-- ---- what the options of a command say

-- the VALUEs that each option was given
abbrev pub Uses : Type 0
Uses = Text → List Text

abbrev pub first : List Text → Option Text
first texts = slice_get texts 0

abbrev pub says : Text → List Text → Bool
says word texts = option_map_or (λ text. bytes_eq text word) (first texts) false

-- the first level by default: 32 KiB, 8-way, with lines of 64 bytes
abbrev pub default_first : Shape
default_first = record { size = 32768; assoc = 8; line = 64 }

-- the last level by default: 8 MiB, 16-way
abbrev pub default_last : Shape
default_last = record { size = 8388608; assoc = 16; line = 64 }

-- what `run` counts besides its parts
abbrev pub watching : Uses → Watching
watching given =
    if says (codes "yes") (given (codes "waits")) then Waits
    else (if says (codes "yes") (given (codes "dump-instr")) then Addresses
    else option_map_or Contexts (option_and_then small_number (first (given (codes "separate-callers")))) Nothing)

-- the positions of the parts of `report`
abbrev pub positions : Uses → Positions
positions given = if says (codes "yes") (given (codes "dump-instr")) then AddressAndLine else Line

-- each option's value, or its default
abbrev pub job : Uses → List Text → Job
job given values = record {
  base = unwrap_or (first (given (codes "base"))) (codes "callgrind.out");
  input = first (given (codes "input"));
  budget = unwrap_or (option_and_then number (first (given (codes "budget")))) (10 ^ 9);
  quantum = unwrap_or (option_and_then small_number (first (given (codes "quantum")))) 10000;
  seed = option_and_then number (first (given (codes "turns")));
  i1 = unwrap_or (option_and_then shape_of (first (given (codes "I1")))) default_first;
  d1 = unwrap_or (option_and_then shape_of (first (given (codes "D1")))) default_first;
  ll = unwrap_or (option_and_then shape_of (first (given (codes "LL")))) default_last;
  every = option_and_then number (first (given (codes "dump-every")));
  before = first (given (codes "dump-before"));
  after = first (given (codes "dump-after"));
  branches = says (codes "yes") (given (codes "branch-sim"));
  args = values;
}

abbrev pub tree_of : List Text → Tree
tree_of texts =
    if says (codes "caller") texts then Caller
    else (if says (codes "calling") texts then Calling else (if says (codes "both") texts then Both else Off))

abbrev pub view : Uses → View
view given = record {
  sort = first (given (codes "sort"));
  threshold = unwrap_or (option_and_then small_number (first (given (codes "threshold")))) 0;
  tree = tree_of (given (codes "tree"));
  auto = says (codes "yes") (given (codes "auto"));
}

-- ---- what is faulty

-- an option stands at most once, and its VALUE is one that it may have
abbrev pub is_fine : Row → Uses → Bool
is_fine row given = nat_le (length (given row.name)) 1 && list_all (accepts row.kind) (given row.name)

abbrev pub are_fine : Command → Uses → Bool
are_fine command given = list_all (λ row. is_fine row given) (rows_of command)

-- a report is sorted by one of the events that its run shows
abbrev pub sort_is_shown : Uses → Bool
sort_is_shown given =
    option_map_or (is_among (events_shown (says (codes "yes") (given (codes "branch-sim"))) event_names))
    (first (given (codes "sort"))) true

-- a run counts at most one thing besides its parts
abbrev pub at_most_one : Bool → Bool → Bool → Bool
at_most_one first second third = if first then not (second || third) else not (second && third)

abbrev pub counts_one : Uses → Bool
counts_one given =
    at_most_one (says (codes "yes") (given (codes "waits"))) (says (codes "yes") (given (codes "dump-instr")))
    (is_some (first (given (codes "separate-callers"))))

-- PROG or a file is named, where the command needs that
abbrev pub has_its_values : Command → Uses → List Text → Bool
has_its_values table.Run given values = nat_lt 0 (length values) && counts_one given
has_its_values table.Report given values = nat_lt 0 (length values) && sort_is_shown given
has_its_values table.Annotate given values = nat_lt 0 (length values)
has_its_values table.Demo given values = true

-- ---- what is asked for

-- how large a demonstration is to be: one number from 1 to 100,000
abbrev pub demo : List Text → Request
demo (size ∷ []) = option_map_or (λ n. if is_between 1 100000 n then Demo n else Usage) (small_number size) Usage
demo _ = Usage

abbrev pub command_request : Command → Uses → List Text → Request
command_request table.Run given values = Run (job given values) (watching given)
command_request table.Report given values = Report (job given values) (positions given) (view given)
command_request table.Annotate given values = Annotate values (view given)
command_request table.Demo given values = demo values

abbrev pub request : Option Command → Uses → List Text → Request
request None given values = Usage
request (Some command) given values =
    if are_fine command given && has_its_values command given values then command_request command given values else Usage

abbrev pub command_named : Text → Option Command
command_named name = find (λ command. bytes_eq (name_of command) name) commands

abbrev pub request_of : Option (Syntax × SortedCommand) → Request
request_of None = Usage
request_of (Some (syntax, sorted)) = request (command_named syntax.name) (λ name. uses name sorted.options) sorted.values

-- The words are sorted into a command, its options and values, and each option and value is looked at.
abbrev pub read_request : List Text → Request
read_request words = request_of (sorting (map syntax_of commands) words)
