use Rattle.dwarf_line.proofs.Digits.{too_large, first_digits}
use Rattle.dwarf_line.proofs.leb128.number.Goals as goal

pub returns-in_err-checked_mul : goal.returns-in_err-checked_mul
returns-in_err-checked_mul c =
    rw c.from_residual.ensures (λ fits. c.in_err-checked_mul.ensures
    (too_large c.args.flipped c.args.groups.now c.digits.i c.digits.number c.digits-test.true c.digits.auto.i
    c.digits.invariant.so_far fits))

pub returns : goal.returns
returns c = first_digits c.args.flipped c.args.groups.now c.digits.i c.digits.number c.digits-test.false
    c.digits.invariant.so_far c.digits.invariant.fits
