-- How many steps are left, where each look finds that the thread has ended.
use Rattle.std.specs.Prelude.{ℕ, zero, suc, ◌+◌, ◌*◌, List, [], ◌∷◌}
use Rattle.demo_run.proofs.Ways.{Stop}

-- from a stop to the end of the thread, with those of the threads that it makes
abbrev pub left_from : ℕ → Stop → ℕ
left_from size (Stop.makes zero) = 3788 * size + 57
left_from size (Stop.makes (suc zero)) = 2841 * size + 41
left_from size (Stop.makes (suc (suc t))) = 1894 * size + 25
left_from size (Stop.looks zero) = 13
left_from size (Stop.looks (suc zero)) = 9
left_from size (Stop.looks (suc (suc t))) = 5
left_from size (Stop.waits zero) = 17
left_from size (Stop.waits (suc zero)) = 13
left_from size (Stop.waits (suc (suc t))) = 9
left_from size Stop.finishes = 1
left_from size (Stop.ends t) = 1

abbrev pub left_on : ℕ → Stop × ℕ → ℕ
left_on size way = way.1 + left_from size way.0

abbrev pub all_left : ℕ → List (Stop × ℕ) → ℕ
all_left size [] = 0
all_left size (way ∷ ways) = left_on size way + all_left size ways
