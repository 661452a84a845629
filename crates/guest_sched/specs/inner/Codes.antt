-- A machine as data.
use Rattle.std.specs.Prelude.{◌≡◌, ℕ, zero, suc, List, Option, refl}
use Rattle.std.specs.Coded.{Coded, code_by, coded×, coded_ℕ, coded_list, coded_option}
use Rattle.rand_pcg.specs.Lcg.{Lcg}
use Rattle.event_costs.specs.declared.numbers.ThreadNo.{ThreadNo}
use Rattle.event_costs.specs.declared.outcome.End.{End}
use Rattle.event_costs.specs.declared.outcome.End.TheVariants.{Exited, Killed, UnsupportedInstr, UnsupportedCall, Budget}
use Rattle.event_costs.specs.declared.outcome.End.TheVariants.{Frames, AllWaiting}
use Rattle.guest_sys.specs.Kernel.{Kernel, kernel_code}
use Rattle.guest_sched.specs.RunQueue.{RunQueue}
use Rattle.guest_sched.specs.Engine.{Engine}
use Rattle.guest_sched.specs.Machine.{Machine}

abbrev pub thread_code : Coded ThreadNo
thread_code = code_by ℕ coded_ℕ (λ t. t.0) (λ n. record { 0 = n }) (λ _. refl)

abbrev pub generator_code : Coded Lcg
generator_code =
    code_by (ℕ × ℕ) (coded× coded_ℕ coded_ℕ) (λ g. (g.state, g.increment))
    (λ p. record { state = p.0; increment = p.1 }) (λ _. refl)

abbrev pub run_queue_code : Coded RunQueue
run_queue_code =
    code_by (List ThreadNo × (ℕ × (ℕ × Option Lcg)))
    (coded× (coded_list thread_code) (coded× coded_ℕ (coded× coded_ℕ (coded_option generator_code))))
    (λ l. (l.ready, (l.steps_left, (l.quantum, l.generator))))
    (λ p. record { ready = p.0; steps_left = p.1.0; quantum = p.1.1.0; generator = p.1.1.1 })
    (λ _. refl)

abbrev pub engine_code : Coded Engine
engine_code =
    code_by (Kernel × (Option ℕ × (RunQueue × Option ℕ)))
    (coded× kernel_code (coded× (coded_option coded_ℕ) (coded× run_queue_code (coded_option coded_ℕ))))
    (λ w. (w.kernel, (w.held, (w.run_queue, w.exit))))
    (λ p. record { kernel = p.0; held = p.1.0; run_queue = p.1.1.0; exit = p.1.1.1 })
    (λ _. refl)

-- an end as three numbers, of which the first tells the kind
abbrev pub end_numbers : End → ℕ × (ℕ × ℕ)
end_numbers (Exited code) = (0, (code, 0))
end_numbers (Killed signal pc) = (1, (signal, pc))
end_numbers (UnsupportedInstr pc word) = (2, (pc, word))
end_numbers (UnsupportedCall pc number) = (3, (pc, number))
end_numbers (Budget steps) = (4, (steps, 0))
end_numbers Frames = (5, (0, 0))
end_numbers AllWaiting = (6, (0, 0))

abbrev pub end_of : ℕ → ℕ × ℕ → End
end_of zero p = Exited p.0
end_of (suc zero) p = Killed p.0 p.1
end_of (suc (suc zero)) p = UnsupportedInstr p.0 p.1
end_of (suc (suc (suc zero))) p = UnsupportedCall p.0 p.1
end_of (suc (suc (suc (suc zero)))) p = Budget p.0
end_of (suc (suc (suc (suc (suc zero))))) p = Frames
end_of (suc (suc (suc (suc (suc (suc n)))))) p = AllWaiting

pub end_of-numbers : (end : End) → end_of (end_numbers end).0 (end_numbers end).1 ≡ end
end_of-numbers (Exited code) = refl
end_of-numbers (Killed signal pc) = refl
end_of-numbers (UnsupportedInstr pc word) = refl
end_of-numbers (UnsupportedCall pc number) = refl
end_of-numbers (Budget steps) = refl
end_of-numbers Frames = refl
end_of-numbers AllWaiting = refl

abbrev pub end_code : Coded End
end_code =
    code_by (ℕ × (ℕ × ℕ)) (coded× coded_ℕ (coded× coded_ℕ coded_ℕ)) end_numbers (λ p. end_of p.0 p.1) end_of-numbers

abbrev pub machine_code : Coded Machine
machine_code =
    code_by (Engine × (Option End × (Option ℕ × List ThreadNo)))
    (coded× engine_code (coded× (coded_option end_code) (coded× (coded_option coded_ℕ) (coded_list thread_code))))
    (λ m. (m.engine, (m.given, (m.wait, m.woken))))
    (λ p. record { engine = p.0; given = p.1.0; wait = p.1.1.0; woken = p.1.1.1 })
    (λ _. refl)
