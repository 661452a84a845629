-- The code's table as data.
use Rattle.std.specs.Prelude.{map}
use Rattle.command_words.specs.Table.{Command, Kind, Row, Takers, AnyText, Sized, Number, Cache, OneOf, Run, Report}
use Rattle.command_words.specs.Table.{Annotate, Demo, RunAlone, RunAndReport, ReportAndAnnotate}
use Rattle.command_words.specs.declared.table.Command as code_command
use Rattle.command_words.specs.declared.table.Command.TheVariants as command
use Rattle.command_words.specs.declared.table.Kind as code_kind
use Rattle.command_words.specs.declared.table.Kind.TheVariants as kind
use Rattle.command_words.specs.declared.table.OptionRow as code_row
use Rattle.command_words.specs.declared.table.Takers as code_takers
use Rattle.command_words.specs.declared.table.Takers.TheVariants as takers

abbrev pub command_of : code_command.Command → Command
command_of command.Run = Run
command_of command.Report = Report
command_of command.Annotate = Annotate
command_of command.Demo = Demo

abbrev pub takers_of : code_takers.Takers → Takers
takers_of takers.RunAlone = RunAlone
takers_of takers.RunAndReport = RunAndReport
takers_of takers.ReportAndAnnotate = ReportAndAnnotate

abbrev pub kind_of : code_kind.Kind → Kind
kind_of kind.AnyText = AnyText
kind_of (kind.Sized least most) = Sized least most
kind_of (kind.Number least most) = Number least most
kind_of kind.Cache = Cache
kind_of (kind.OneOf words) = OneOf (map (λ word. word.now) words.now)

abbrev pub row_of : code_row.OptionRow → Row
row_of row = record { name = row.name.now; takers = takers_of row.takers; kind = kind_of row.kind }
