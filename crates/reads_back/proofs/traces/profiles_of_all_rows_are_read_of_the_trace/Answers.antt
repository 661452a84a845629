use Rattle.reads_back.proofs.traces.profiles_of_all_rows_are_read_of_the_trace.Goals as goal

pub returns : goal.returns
returns c = λ head command m trace parts p exact profile of_rows. record {
  profile = profile;
  parts = parts;
  exact = exact;
  events = of_rows.events;
  self_rows = of_rows.self_rows;
  call_rows = of_rows.call_rows;
}
