-- The command that `clap` is given, as what it reads of it.
use Rattle.std.specs.Prelude.{Bool, List, [], ◌∷◌, map, Some, codes, true, false}
use Rattle.clap.specs.Simple.{App, Shape, new_rule, new_shape}
use Rattle.clap.specs.Walk.{Rule}
use Rattle.clap.specs.declared.builder.action.ArgAction.TheVariants.{Append}
use Rattle.sorted_words.specs.Sorting.{Syntax, Text}

-- the id of the values, which is no option's
abbrev pub values_id : Text
values_id = []

-- each may stand any number of times
abbrev pub values_rule : Rule
values_rule = record (new_rule values_id) { action = Some Append }

abbrev pub option_rule : Text → Rule
option_rule name = record (new_rule name) { long = Some name; action = Some Append }

abbrev pub rules : List Text → List Rule
rules names = values_rule ∷ map option_rule names

abbrev pub leaf : Syntax → Shape
leaf command = record (new_shape command.name) { rules = rules command.options }

abbrev pub has_none : List Syntax → Bool
has_none [] = true
has_none (command ∷ commands) = false

-- the program: its commands, and no help
abbrev pub app : List Syntax → App
app commands = record {
  top = record (new_shape (codes "program")) {
    is_leaf = has_none commands;
    disable_help_flag = true;
    disable_help_subcommand = true;
    subcommand_required = true;
  };
  subs = map leaf commands;
}
