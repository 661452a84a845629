-- What is looked at after an event says where the cuts stand.
use Rattle.std.proofs.Common.{◌≡◌, ◌≢◌, ◌<◌, ◌≤◌, ◌+◌, ◌-◌, ◌*◌, ◌/◌, ◌%◌, ◌==◌, ℕ, Bool, false, ◌||◌}
use Rattle.std.proofs.Common.{List, [], ◌∷◌, arith}
use Rattle.std.proofs.Common.{map, slice_get, Decides, Option, None, Some, option_map}
use Rattle.std.proofs.Common.{if◌then◌else◌, refl, ap, sym, ◌∙◌}
use Rattle.std.specs.List.{list_any}
use Rattle.std.specs.Option.{option_map_or, option_or}
use Rattle.std.specs.Str.{bytes_eq}
use Rattle.std.proofs.lemmas.Bool.{false≢true}
use Rattle.std.proofs.lemmas.Bool.Decides.{nat_tests, same_from_decides}
use Rattle.std.proofs.lemmas.Nat.{div-add-mod', mod-mul-add, mod_below}
use Rattle.std.proofs.lemmas.Slice.Eq.{bytes_eq-Decides}
use Rattle.event_costs.specs.FuncSet.{is_among}
use Rattle.event_costs.proofs.FuncSetLemmas.{among-Decides}
use Rattle.event_costs.specs.declared.numbers.FuncId.{FuncId}
use Rattle.event_costs.specs.declared.outcome.Noted.{Noted}
use Rattle.cg_format.specs.declared.trigger.Trigger.{Trigger}
use Rattle.cg_format.specs.declared.trigger.Trigger.TheVariants.{After, Before, Every}
use Rattle.sym_map.specs.SymbolMap.{SymbolMap}
use Rattle.shadow_stack.specs.Changes.{change}
use Rattle.shadow_stack.specs.Stacks.{Activation}
use Rattle.shadow_stack.specs.Traces.{EventOnStack}
use Rattle.part_dump.specs.Cuts.{DumpPoints, after_cut, before_cut, cut_after, dropped_frames, every_cut, has_name}
use Rattle.part_dump.specs.Rules.{AreNamed, IsNotedOf, IsRuleOf, Rule, after_due, before_due, due_after}

is_text-Decides : (o : Option (List ℕ)) (name : List ℕ)
    → Decides (option_map_or (λ text. bytes_eq text name) o false) (o ≡ Some name)
is_text-Decides None name = (λ e. absurd (false≢true e), λ e. absurd (cc))
is_text-Decides (Some text) name =
    let d = bytes_eq-Decides text name in (λ e. ap Some (d.0 e), λ e. d.1 (cc))

-- the functions of a name are those that have it
among_named : (syms : SymbolMap) (name : List ℕ) (funcs : List FuncId) → AreNamed syms (Some name) funcs
    → (func : FuncId) → is_among funcs func ≡ has_name syms name func
among_named syms name funcs named func =
    let among = among-Decides funcs func in
    let has = is_text-Decides (slice_get (map (λ function. function.name) syms.functions) func.0) name in
    same_from_decides (is_among funcs func) (has_name syms name func)
    (λ e. (named func).0 (among.0 e), λ h. among.1 ((named func).1 h))
    has

any_agree : {X : Type 0} (f g : X → Bool) → ((x : X) → f x ≡ g x) → (xs : List X) → list_any f xs ≡ list_any g xs
any_agree f g same [] = refl
any_agree f g same (x ∷ xs) = ap (λ b. b || list_any f xs) (same x) ∙ ap (λ b. g x || b) (any_agree f g same xs)

pushed_named : (syms : SymbolMap) (name : List ℕ) (funcs : List FuncId) → AreNamed syms (Some name) funcs
    → (pushed : Option Activation)
    → option_map_or (is_among funcs) (option_map (λ a. a.func) pushed) false
    ≡ option_map_or (λ a. has_name syms name a.func) pushed false
pushed_named syms name funcs named None = refl
pushed_named syms name funcs named (Some a) = among_named syms name funcs named a.func

before_is : (syms : SymbolMap) (rule : Rule) (asked : Option (List ℕ)) (x : EventOnStack) (pushed : Option FuncId)
    → AreNamed syms asked rule.before → pushed ≡ option_map (λ a. a.func) (change syms x.event x.stack).pushed
    → before_due rule pushed asked ≡ before_cut syms asked x
before_is syms rule None x pushed named is = refl
before_is syms rule (Some name) x pushed named is =
    let cut : Bool → Option Trigger = λ b. if b then Some (Before name) else None in
    ap cut (ap (λ p. option_map_or (is_among rule.before) p false) is
    ∙ pushed_named syms name rule.before named (change syms x.event x.stack).pushed)

after_is : (syms : SymbolMap) (rule : Rule) (asked : Option (List ℕ)) (x : EventOnStack) (left : Bool)
    → AreNamed syms asked rule.after → left ≡ list_any (λ a. is_among rule.after a.func) (dropped_frames syms x)
    → after_due left asked ≡ after_cut syms asked x
after_is syms rule None x left named is = refl
after_is syms rule (Some name) x left named is =
    let cut : Bool → Option Trigger = λ b. if b then Some (After name) else None in
    ap cut (is ∙ any_agree (λ a. is_among rule.after a.func) (λ a. has_name syms name a.func)
    (λ a. among_named syms name rule.after named a.func) (dropped_frames syms x))

pub due_is_cut : (syms : SymbolMap) (asked : DumpPoints) (rule : Rule) (steps : ℕ) (x : EventOnStack) (noted : Noted)
    → IsRuleOf syms asked rule → IsNotedOf syms rule.after x noted
    → due_after rule steps noted ≡ cut_after syms asked steps x
due_is_cut syms asked rule steps x noted is did =
    ap (λ (a : DumpPoints). option_or (every_cut a.every steps)
    (option_or (before_due rule noted.pushed a.before) (after_due noted.left a.after)))
    is.said
    ∙ ap (λ b. option_or (every_cut asked.every steps) (option_or b (after_due noted.left asked.after)))
    (before_is syms rule asked.before x noted.pushed is.before did.pushed)
    ∙ ap (λ b. option_or (every_cut asked.every steps) (option_or (before_cut syms asked.before x) b))
    (after_is syms rule asked.after x noted.left is.after did.left)

none_before : (rule : Rule) (name : Option (List ℕ)) → before_due rule None name ≡ None
none_before rule None = refl
none_before rule (Some name) = refl

none_after : (name : Option (List ℕ)) → after_due false name ≡ None
none_after None = refl
none_after (Some name) = refl

or_none : (t : Option Trigger) → option_or t None ≡ t
or_none None = refl
or_none (Some t) = refl

-- an event that pushes nothing and drops nothing that is watched is cut for its number alone
pub cut_by_number : (syms : SymbolMap) (asked : DumpPoints) (rule : Rule) (steps : ℕ) (x : EventOnStack) (noted : Noted)
    → IsRuleOf syms asked rule → IsNotedOf syms rule.after x noted → noted.pushed ≡ None → noted.left ≡ false
    → cut_after syms asked steps x ≡ every_cut asked.every steps
cut_by_number syms asked rule steps x noted is did pushed left =
    let due : Option Trigger → Option Trigger → Option Trigger = λ b a.
    option_or (every_cut rule.dump_points.every steps) (option_or b a) in
    sym (due_is_cut syms asked rule steps x noted is did)
    ∙ ap (λ p. due (before_due rule p rule.dump_points.before) (after_due noted.left rule.dump_points.after)) pushed
    ∙ ap (λ b. due b (after_due noted.left rule.dump_points.after)) (none_before rule rule.dump_points.before)
    ∙ ap (λ l. due None (after_due l rule.dump_points.after)) left
    ∙ ap (due None) (none_after rule.dump_points.after)
    ∙ or_none (every_cut rule.dump_points.every steps)
    ∙ ap (λ (a : DumpPoints). every_cut a.every steps) is.said

is_some_rest : (a : ℕ) → a ≢ 0 → (a == 0) ≡ false
is_some_rest a some = grind (arith, nat_tests)

-- no multiple lies between a number and the next one
pub none_between : (every : Option ℕ) (e steps n : ℕ) → every ≡ Some e → 0 < e → steps < n
    → n ≤ steps + (e - 1 - steps % e) → every_cut every n ≡ None
none_between every e steps n is some above within =
    let base = steps / e * e in
    let whole : base + steps % e ≡ steps = div-add-mod' steps e in
    let low = mod_below steps e some in
    let same : n ≡ base + (n - base) = omega (arith, whole, above) in
    let rest : n % e ≡ n - base =
    ap (λ k. k % e) same ∙ mod-mul-add (steps / e) e (n - base) (omega (arith, whole, low, above, within, some)) in
    let mark : Bool → Option Trigger = λ b. if b then Some (Every e) else None in
    ap (λ o. every_cut o n) is
    ∙ ap mark (is_some_rest (n % e) (λ none. omega (arith, whole, low, above, rest, none)))
