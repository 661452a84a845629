-- The code's requests as what is asked.
use Rattle.std.specs.Prelude.{map, option_map, string_bytes}
use Rattle.sorted_words.specs.SortedWords.{SortedWords, under}
use Rattle.command_words.specs.Request.{Request, Job, Tree, Uses, View, Run, Report, Annotate, Demo, Usage, Off, Caller}
use Rattle.command_words.specs.Request.{Calling, Both, Addresses, Contexts, Nothing, Waits, Watching}
use Rattle.command_words.specs.Request.{AddressAndLine, Line, Positions}
use Rattle.command_words.specs.declared.request.Job as code_job
use Rattle.command_words.specs.declared.request.Positions as code_positions
use Rattle.command_words.specs.declared.request.Positions.TheVariants as positions
use Rattle.command_words.specs.declared.request.Request as code_request
use Rattle.command_words.specs.declared.request.Request.TheVariants as code
use Rattle.command_words.specs.declared.request.Tree as code_tree
use Rattle.command_words.specs.declared.request.Tree.TheVariants as tree
use Rattle.command_words.specs.declared.request.View as code_view
use Rattle.command_words.specs.declared.request.Watching as code_watching
use Rattle.command_words.specs.declared.request.Watching.TheVariants as watching

-- the VALUEs that each option was given
abbrev pub uses_of : SortedWords → Uses
uses_of given = λ name. under name given.options

abbrev pub watching_of : code_watching.Watching → Watching
watching_of watching.Nothing = Nothing
watching_of watching.Waits = Waits
watching_of (watching.Contexts callers) = Contexts callers
watching_of watching.Addresses = Addresses

abbrev pub positions_of : code_positions.Positions → Positions
positions_of positions.Line = Line
positions_of positions.AddressAndLine = AddressAndLine

abbrev pub job_of : code_job.Job → Job
job_of job = record {
  base = job.base.now;
  input = option_map (λ name. name.now) job.input;
  budget = job.budget;
  quantum = job.quantum;
  seed = job.seed;
  i1 = job.caches.i1;
  d1 = job.caches.d1;
  ll = job.caches.ll;
  every = job.dumps.every;
  before = option_map (λ name. name.now) job.dumps.before;
  after = option_map (λ name. name.now) job.dumps.after;
  branches = job.branches;
  args = map (λ word. string_bytes word) job.args.items;
}

abbrev pub tree_of : code_tree.Tree → Tree
tree_of tree.Off = Off
tree_of tree.Caller = Caller
tree_of tree.Calling = Calling
tree_of tree.Both = Both

abbrev pub view_of : code_view.View → View
view_of view = record {
  sort = option_map (λ event. event.now) view.sort;
  threshold = view.threshold;
  tree = tree_of view.tree;
  auto = view.auto;
}

-- a request of the code as what is asked
abbrev pub meaning_of : code_request.Request → Request
meaning_of (code.Run job watching) = Run (job_of job) (watching_of watching)
meaning_of (code.Report job positions view) = Report (job_of job) (positions_of positions) (view_of view)
meaning_of (code.Annotate files view) = Annotate (map (λ file. file.now) files.items) (view_of view)
meaning_of (code.Demo size) = Demo size
meaning_of code.Usage = Usage
