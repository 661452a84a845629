-- The text of a report on waiting.
use Rattle.std.specs.Prelude.{ℕ, Bool, if◌then◌else◌, List, ◌++◌, codes, decimal}
use Rattle.std.specs.Prelude.{flat_map, fold}
use Rattle.event_costs.specs.Costs.{event_names, events_shown, no_cost, sum_of_costs}
use Rattle.byte_text.specs.Hex.{hex}
use Rattle.byte_text.specs.Names.{clean_name}
use Rattle.cg_format.specs.Marks.{cost_text, words_text}
use Rattle.wait_report.specs.declared.rows.WaitRow.{WaitRow}
use Rattle.wait_report.specs.declared.rows.Waker.{Waker}

-- ---- lines, each with its line feed

-- what it is, and the command
abbrev pub command_text : List ℕ → List ℕ
command_text cmd = codes "# waits\ncmd: " ++ clean_name cmd

abbrev pub events_text : Bool → List ℕ
events_text branch = codes "\nevents:" ++ words_text (events_shown branch event_names) ++ codes "\n"

abbrev pub waker_text : Waker → List ℕ
waker_text waker =
    codes "  woken by " ++ decimal waker.thread.0 ++ codes " times " ++ decimal waker.times ++ codes "\n"

-- the line of a row: where its waits began, how many there are and whether one of them is open, and their cost
abbrev pub spot_text : WaitRow → List ℕ
spot_text row = codes "thread " ++ decimal row.thread.0 ++ codes " word " ++ hex row.word

abbrev pub number_text : WaitRow → List ℕ
number_text row = codes " waits " ++ decimal row.waits ++ (if row.unwoken then codes " open 1" else codes " open 0")

abbrev pub cost_line : Bool → List ℕ → List ℕ
cost_line branch cost = codes " cost" ++ cost_text (events_shown branch cost) ++ codes "\n"

-- a row and its wakers
abbrev pub row_text : Bool → WaitRow → List ℕ
row_text branch row =
    spot_text row ++ number_text row ++ cost_line branch row.cost ++ flat_map waker_text row.wakers

-- the cost of all rows together
abbrev pub sum_of_rows : List WaitRow → List ℕ
sum_of_rows rows = fold (λ sum row. sum_of_costs sum row.cost) no_cost rows

abbrev pub total_text : Bool → List ℕ → List ℕ
total_text branch sum = codes "total" ++ cost_text (events_shown branch sum) ++ codes "\n"

-- the text of the rows of a run of this command
unfoldable pub waits_text : List ℕ → Bool → List WaitRow → List ℕ
waits_text cmd branch rows =
    command_text cmd ++ events_text branch ++ flat_map (row_text branch) rows ++ total_text branch (sum_of_rows rows)
