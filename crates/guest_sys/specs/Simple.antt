-- Calls on a stream that only answer.
use Rattle.std.specs.Prelude.{ℕ, nat_lt, if◌then◌else◌}
use Rattle.guest_sys.specs.Common.{argument, error_of, ebadf}
use Rattle.guest_sys.specs.declared.caller.Caller.{Caller}

-- what a call on a descriptor answers: 0 to 2 are streams that are open, any other is none
unfoldable pub on_stream : Caller → ℕ → ℕ
on_stream c value = if nat_lt (argument 0 c) 3 then value else error_of ebadf
