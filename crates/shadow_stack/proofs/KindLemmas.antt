-- What leaves a frame leaves no root.
use Rattle.std.proofs.Common.{◌≡◌, true, false, refl}
use Rattle.event_costs.specs.declared.event.Event.{Event}
use Rattle.shadow_stack.specs.declared.frame.Kind.{Kind}
use Rattle.shadow_stack.specs.declared.frame.Kind.TheVariants.{Root, Call, Jump}
use Rattle.shadow_stack.specs.Kinds.{is_root, is_left_by, returns_by, is_below, is_level}

pub not_root_left : (e : Event) (k : Kind) → is_left_by e k ≡ true → is_root k ≡ false
not_root_left e Root h = absurd (cc)
not_root_left e (Call ret sp) h = refl
not_root_left e Jump h = refl

pub not_root_returns : (e : Event) (k : Kind) → returns_by e k ≡ true → is_root k ≡ false
not_root_returns e Root h = absurd (cc)
not_root_returns e (Call ret sp) h = refl
not_root_returns e Jump h = refl

pub not_root_below : (e : Event) (k : Kind) → is_below e k ≡ true → is_root k ≡ false
not_root_below e Root h = absurd (cc)
not_root_below e (Call ret sp) h = refl
not_root_below e Jump h = refl

pub not_root_level : (e : Event) (k : Kind) → is_level e k ≡ true → is_root k ≡ false
not_root_level e Root h = absurd (cc)
not_root_level e (Call ret sp) h = refl
not_root_level e Jump h = refl
