use Rattle.wait_report.proofs.books.keys_listed.Goals as goal

pub returns-in_err-keys-clause-apart : goal.returns-in_err-keys-clause-apart
returns-in_err-keys-clause-apart g c = c.rows-listed.ensures.apart

pub returns-in_err-push-clause-apart : goal.returns-in_err-push-clause-apart
returns-in_err-push-clause-apart g c = c.rows-listed.ensures.apart

pub returns-clause-apart : goal.returns-clause-apart
returns-clause-apart g c = c.rows-listed.ensures.apart
