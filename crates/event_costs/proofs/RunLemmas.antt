-- Three laws of runs: a run goes on by one step at its end, a run is a front of every trace, and a machine has one
-- trace.
use Rattle.std.proofs.Common.{◌≡◌, List, [], ◌∷◌, ◌++◌, Result, Ok, Err, sym, ap, subst, ◌∙◌, refl}
use Rattle.std.proofs.lemmas.List.{append-nil}
use Rattle.event_costs.specs.Runs.{Run, IsTrace}

module _ {M E X : Type 0} (next : M → Result (E × M) X) where
  -- a run goes on by one step at its end
  pub Run-push : (first : M) (events : List E) (mid : M) (event : E) (last : M)
      → Run next first events mid → next mid ≡ Ok (event, last) → Run next first (events ++ event ∷ []) last
  Run-push first [] mid event last run step = (last, ap next run ∙ step, refl)
  Run-push first (e ∷ events) mid event last run step =
      (run.0, run.1, Run-push run.0 events mid event last run.2 step)

  same_pair : (e f : E) (m n : M) → ◌≡◌ {A = E × M} (e, m) (f, n) → (e ≡ f) × (m ≡ n)
  same_pair e f m n p = (ap (λ (t : E × M). t.0) p, ap (λ (t : E × M). t.1) p)

  -- the machine after an event is the same in each run
  same_step : (first : M) (e f : E) (m n : M) → next first ≡ Ok (e, m) → next first ≡ Ok (f, n) → (e ≡ f) × (m ≡ n)
  same_step first e f m n p q = same_pair e f m n (cc)

  no_step : (first : M) (e : E) (m : M) (end : X) → next first ≡ Ok (e, m) → next first ≡ Err end → ⊥
  no_step first e m end p q = cc

  IsTrace-tail : (first mid : M) (f : E) (others : List E) (end : X) (trace : IsTrace next first (f ∷ others) end)
      → trace.run.0 ≡ mid → IsTrace next mid others end
  IsTrace-tail first mid f others end trace same =
      record {
        last = trace.last;
        run = subst (λ m. Run next m others trace.last) same trace.run.2;
        stop = trace.stop;
      }

  -- a run is a front of every trace from where it starts
  pub Run-front : (first : M) (events : List E) (last : M) (all : List E) (end : X)
      → Run next first events last → IsTrace next first all end
      → (rest : List E) × (all ≡ events ++ rest) × IsTrace next last rest end
  Run-front first [] last all end run trace = (all, refl, subst (λ m. IsTrace next m all end) run trace)
  Run-front first (e ∷ events) last [] end run trace =
      absurd (no_step first e run.0 end run.1 (ap next trace.run ∙ trace.stop))
  Run-front first (e ∷ events) last (f ∷ others) end run trace =
      let same = same_step first e f run.0 trace.run.0 run.1 trace.run.1 in
      let tail =
      Run-front run.0 events last others end run.2 (IsTrace-tail first run.0 f others end trace (sym same.1)) in
      (tail.0, (λ i. sym same.0 i ∷ tail.1 i), tail.2)

  -- the trace from where a run ends is all that is left
  nothing_left : (last : M) (rest : List E) (end stop : X) → next last ≡ Err end → IsTrace next last rest stop
      → (rest ≡ []) × (end ≡ stop)
  nothing_left last [] end stop is trace =
      let there : next last ≡ Err stop = ap next trace.run ∙ trace.stop in (refl, cc)
  nothing_left last (f ∷ others) end stop is trace = absurd (no_step last f trace.run.0 end trace.run.1 is)

  -- two traces of one machine are equal
  pub IsTrace-same : (first : M) (events others : List E) (end stop : X)
      → IsTrace next first events end → IsTrace next first others stop → (events ≡ others) × (end ≡ stop)
  IsTrace-same first events others end stop p q =
      let front = Run-front first events p.last others stop p.run q in
      let done = nothing_left p.last front.0 end stop p.stop front.2 in
      (sym (front.1 ∙ ap (λ rest. events ++ rest) done.0 ∙ append-nil events), done.1)
