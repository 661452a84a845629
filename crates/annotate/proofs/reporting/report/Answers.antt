use Rattle.std.proofs.Common.{◌≡◌, ℕ, Err, ap}
use Rattle.std.proofs.lemmas.Result.{err_from_is_err_and}
use Rattle.cycles.specs.declared.error.InclError.{InclError}
use Rattle.cycles.specs.declared.error.InclError.TheVariants as incl
use Rattle.annotate.specs.inner.Errors.{report_error}
use Rattle.annotate.specs.declared.error.ReportError.TheVariants.{SumLimit}
use Rattle.annotate.proofs.reporting.report.Goals as goal

limit_of : (e : InclError) (position : ℕ) → report_error e ≡ SumLimit position → e ≡ incl.SumLimit position
limit_of (incl.SumLimit k) position same = cc
limit_of (incl.OutOfMemory _) position same = cc

pub returns-in_err-costs-clause-limit : goal.returns-in_err-costs-clause-limit
returns-in_err-costs-clause-limit c = λ position is.
    let e = err_from_is_err_and c.from_residual-in_err-costs.result c.from_residual-in_err-costs.ensures.1 in
    let same : report_error c.in_err-costs.field-0.0 ≡ SumLimit position = cc (e.1, e.2, is) in
    c.in_err-costs.ensures.limit position (ap Err (limit_of c.in_err-costs.field-0.0 position same))
