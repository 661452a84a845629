-- Functions begin where the jumps to them go.
use Rattle.std.proofs.Common.{◌≡◌, ℕ, ◌∷◌, map, refl}
use Rattle.std.specs.List.{range_with_len}
use Rattle.demo_make.specs.Layout.{code_addr, child_addr, function_addr}
use Rattle.demo_make.specs.Program.{demo, routines}

pub stand : (size : ℕ) → map (λ f. f.addr) (demo size).functions
    ≡ code_addr ∷ child_addr ∷ map function_addr (range_with_len 0 32)
unfolding routines
stand size = refl
