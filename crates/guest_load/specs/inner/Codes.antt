-- A guest's state as data.
use Rattle.std.specs.Prelude.{ℕ, List, refl}
use Rattle.std.specs.Coded.{Coded, code_by, coded×, coded_ℕ, coded_list}
use Rattle.std.specs.FinMap as map
use Rattle.guest_mem.specs.Memory.{Memory, cell_code}
use Rattle.guest_load.specs.declared.thread.Thread.{Thread}
use Rattle.guest_load.specs.Guest.{Guest}

abbrev pub thread_code : Coded Thread
thread_code =
    code_by (ℕ × (ℕ × (List ℕ × ℕ))) (coded× coded_ℕ (coded× coded_ℕ (coded× (coded_list coded_ℕ) coded_ℕ)))
    (λ t. (t.no.0, (t.regs.pc, (t.regs.x, t.clear))))
    (λ p. record { no = record { 0 = p.0 }; regs = record { pc = p.1.0; x = p.1.1.0 }; clear = p.1.1.1 })
    (λ _. refl)

abbrev pub guest_code : Coded Guest
guest_code =
    code_by (Memory × (List Thread × (ℕ × (ℕ × (List ℕ × (ℕ × (ℕ × ℕ)))))))
    (coded× (map.code coded_ℕ cell_code)
    (coded× (coded_list thread_code)
    (coded× coded_ℕ (coded× coded_ℕ (coded× (coded_list coded_ℕ) (coded× coded_ℕ (coded× coded_ℕ coded_ℕ)))))))
    (λ g. (g.mem, (g.threads, (g.first_break, (g.now_break, (g.input, (g.place, (g.made, g.steps))))))))
    (λ p. record {
      mem = p.0;
      threads = p.1.0;
      first_break = p.1.1.0;
      now_break = p.1.1.1.0;
      input = p.1.1.1.1.0;
      place = p.1.1.1.1.1.0;
      made = p.1.1.1.1.1.1.0;
      steps = p.1.1.1.1.1.1.1;
    })
    (λ _. refl)
