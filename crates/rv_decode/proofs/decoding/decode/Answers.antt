use Rattle.rv_decode.proofs.CodingLemmas.{amounts, encoded_again, even_offsets, in_range, registers}
use Rattle.rv_decode.proofs.DecodeLemmas.{by_each_row, none_exactly}
use Rattle.rv_decode.proofs.decoding.decode.Goals as goal

pub returns-clause-none : goal.returns-clause-none
returns-clause-none c = none_exactly c.args.word c.instr_by.result c.instr_by.ensures

pub returns-clause-one_row : goal.returns-clause-one_row
returns-clause-one_row c = by_each_row c.args.word c.instr_by.result c.instr_by.ensures

pub returns-clause-registers : goal.returns-clause-registers
returns-clause-registers c = registers c.args.word c.instr_by.result c.ranges.word.fits c.instr_by.ensures

pub returns-clause-in_range : goal.returns-clause-in_range
returns-clause-in_range c = in_range c.args.word c.instr_by.result c.ranges.word.fits c.instr_by.ensures

pub returns-clause-amounts : goal.returns-clause-amounts
returns-clause-amounts c = amounts c.args.word c.instr_by.result c.ranges.word.fits c.instr_by.ensures

pub returns-clause-even_offsets : goal.returns-clause-even_offsets
returns-clause-even_offsets c = even_offsets c.args.word c.instr_by.result c.ranges.word.fits c.instr_by.ensures

pub returns-clause-word : goal.returns-clause-word
returns-clause-word c = encoded_again c.args.word c.instr_by.result c.ranges.word.fits c.instr_by.ensures
