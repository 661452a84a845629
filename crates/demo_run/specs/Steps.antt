-- How many steps the program of a size makes.
use Rattle.std.specs.Prelude.{ℕ, ◌+◌, ◌*◌}

-- where main waits so often for a thread that hasn't ended
abbrev pub demo_steps : ℕ → ℕ → ℕ
demo_steps size waits = 3788 * size + 65 + 9 * waits
