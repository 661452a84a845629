-- kill, tkill and tgkill: a signal kills the guest, whose one process is 1.
use Rattle.std.specs.Prelude.{ℕ, ◌==◌, ◌&&◌, Bool, nat_le, if◌then◌else◌, Option, Some, None}
use Rattle.std.specs.List.{list_any}
use Rattle.guest_load.specs.Guest.{Guest}
use Rattle.guest_sys.specs.Common.{argument, answers, quiet_effect, einval, needs}
use Rattle.guest_sys.specs.declared.caller.Caller.{Caller}
use Rattle.guest_sys.specs.declared.effect.Act.TheVariants as act
use Rattle.guest_sys.specs.declared.effect.Effect.{Effect}

-- the signal 0 asks whether it could be sent; there are 64 signals. A kill changes nothing
abbrev pub signal_effect : Guest → Caller → ℕ → Option (Effect × Guest)
signal_effect g c signal =
    if signal == 0 then answers g c 0
    else needs (nat_le signal 64) einval g c (Some (quiet_effect (act.Killed signal), g))

abbrev pub is_live : Guest → ℕ → Bool
is_live g thread = list_any (λ t. t.no.0 == thread) g.threads

abbrev pub signal_effect_where : Bool → Guest → Caller → ℕ → Option (Effect × Guest)
signal_effect_where holds g c signal = if holds then signal_effect g c signal else None

-- kill(p, s): the process, or the processes of its group, which is 0
unfoldable pub kill : Guest → Caller → Option (Effect × Guest)
kill g c = signal_effect_where (nat_le (argument 0 c) 1) g c (argument 1 c)

-- tkill(t, s)
unfoldable pub tkill : Guest → Caller → Option (Effect × Guest)
tkill g c = signal_effect_where (is_live g (argument 0 c)) g c (argument 1 c)

-- tgkill(p, t, s)
unfoldable pub tgkill : Guest → Caller → Option (Effect × Guest)
tgkill g c = signal_effect_where ((argument 0 c == 1) && is_live g (argument 1 c)) g c (argument 2 c)
