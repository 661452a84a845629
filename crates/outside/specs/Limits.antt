-- How long a file may be that a command loads.
use Rattle.std.specs.Prelude.{ℕ}

-- a program or a profile: 64 MiB
abbrev pub file_limit : ℕ
file_limit = 67108864

-- an input or a source text: 16 MiB
abbrev pub text_limit : ℕ
text_limit = 16777216
