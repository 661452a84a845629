-- The errors of a report by those of inclusive costs.
use Rattle.cycles.specs.declared.error.InclError.{InclError}
use Rattle.cycles.specs.declared.error.InclError.TheVariants as incl
use Rattle.annotate.specs.declared.error.ReportError.{ReportError}
use Rattle.annotate.specs.declared.error.ReportError.TheVariants.{SumLimit, OutOfMemory}
use Rattle.byte_text.specs.Memory.{memory}

abbrev pub report_error : InclError → ReportError
report_error (incl.SumLimit position) = SumLimit position
report_error (incl.OutOfMemory _) = OutOfMemory memory
