use Rattle.ctx_rows.proofs.PutLemmas.{cut_puts, run_puts}
use Rattle.ctx_rows.proofs.laws.parts_have_the_rows_of_their_events.Goals as goal

pub returns : goal.returns
returns c = record {
  whole = λ row_list head syms base asked trace tried first fresh watched.
      run_puts row_list head syms base asked trace first fresh tried watched;
  so_far = λ row_list head syms base asked trace first fresh watched.
      cut_puts row_list head syms base asked trace first fresh watched;
}
