use Rattle.std.proofs.Common.{◌≡◌, ◌++◌, flat_map, take}
use Rattle.wait_report.specs.Texts.{waker_text}
use Rattle.wait_report.proofs.writing.push_wakers.Given as goal

abbrev pub invariant-wakers : goal.invariant-wakers
invariant-wakers l = l.text ≡ l.initial.text ++ flat_map waker_text (take l.waker-index l.wakers)
