use Rattle.recorder.proofs.EntryLaws.{accounts_alone, accounts_led, accounts_stand}
use Rattle.recorder.proofs.laws.accounts_stand_for_their_entries.Goals as goal

pub returns-clause-stands : goal.returns-clause-stands
returns-clause-stands c = λ syms thread entries ones. accounts_stand syms thread entries ones

pub returns-clause-alone : goal.returns-clause-alone
returns-clause-alone c = λ syms thread xs ys same. accounts_alone syms thread xs ys same

pub returns-clause-kept : goal.returns-clause-kept
returns-clause-kept c = λ syms thread entries r s none lead. accounts_led syms thread entries r s none lead
