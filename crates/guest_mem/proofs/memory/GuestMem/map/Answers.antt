use Rattle.std.proofs.Common.{ℕ, cond, ◌≡◌, ◌*◌, ◌/◌, sym, ◌∙◌, ap, arith, refl, vec_len}
use Rattle.std.specs.Prelude.{Result, Ok, Err, Some, ◌↔◌, is_some}
use Rattle.std.specs.Result.{IsErrAnd}
use Rattle.guest_mem.specs.declared.error.MapError.{MapError}
use Rattle.guest_mem.specs.declared.error.MapError.TheVariants.{Full, OutOfMemory}
use Rattle.guest_mem.specs.Memory.{in_range, zero_range}
use Rattle.guest_mem.specs.inner.Page.{zero_page, memory_of_pages}
use Rattle.guest_mem.specs.inner.Table.{AltersRange}
use Rattle.guest_mem.specs.inner.Directory.{page_at}
use Rattle.guest_mem.specs.declared.directory.Directory.{Directory}
use Rattle.guest_mem.proofs.Spans.{whole_pages}
use Rattle.guest_mem.proofs.Views.{memory_of_pages-zeroed}
use Rattle.guest_mem.proofs.Mapped.{total_same, total_filled, count_zeroed}
use Rattle.guest_mem.proofs.Laws.{elsewhere-zeroed, elsewhere-by}
use Rattle.guest_mem.proofs.memory.GuestMem.map.Goals as goal
use Rattle.byte_text.specs.Memory.{memory}

-- want of memory is no full memory
not_full : (r : Result (Unit {0}) MapError) (P : Type 0) → IsErrAnd r (λ e. e ≡ (OutOfMemory memory)) → (P → ⊥)
    → (r ≡ Err Full) ↔ P
not_full (Ok x) P given room = absurd given
not_full (Err e) P given room = (λ full. cc, λ p. absurd (room p))

-- the pages of a directory with more places, of which some were filled
filled_after : (old mid new : Directory) (first n count permission : ℕ) → n ≡ count
    → ((p : ℕ) → page_at mid p ≡ page_at old p)
    → AltersRange (page_at mid) (page_at new) first n (λ _. Some (zero_page permission))
    → AltersRange (page_at old) (page_at new) first count (λ _. Some (zero_page permission))
filled_after old mid new first n count permission is same change q =
    change q ∙ ap (λ k. cond (in_range first k q) (Some (zero_page permission)) (page_at mid q)) is
    ∙ ap (λ o. cond (in_range first count q) (Some (zero_page permission)) o) (same q)

pub returns-then-self-missing-clause-full : goal.returns-then-self-missing-clause-full
returns-then-self-missing-clause-full c =
    let after =
    count_zeroed c.self.inside.directory c.args.self.now c.args.first c.args.pages c.args.perm c.self.view_is
    c.requires.aligned c.requires.within c.requires.permission in
    let before = c.self.invariant in
    (λ _. omega (arith, after, before), λ _. refl)

pub invariant_of-self : goal.invariant_of-self
invariant_of-self c = c.self.invariant
    ∙ sym (total_same c.self.inside.directory c.reserve_range.new.self
    (λ p. ap is_some (c.reserve_range.ensures.pages p)))

pub returns-in_err-reserve_range-clause-full : goal.returns-in_err-reserve_range-clause-full
returns-in_err-reserve_range-clause-full c =
    let after =
    count_zeroed c.self.inside.directory c.args.self.now c.args.first c.args.pages c.args.perm c.self.view_is
    c.requires.aligned c.requires.within c.requires.permission in
    let before = c.self.invariant in
    not_full c.from_residual.result _ c.from_residual.ensures.1 (λ past. omega (arith, after, before, past))

pub invariant_of-self-in_err-fresh : goal.invariant_of-self-in_err-fresh
invariant_of-self-in_err-fresh c = c.self.invariant
    ∙ sym (total_same c.self.inside.directory c.reserve_range.new.self
    (λ p. ap is_some (c.reserve_range.ensures.pages p)))

pub returns-in_err-fresh-clause-full : goal.returns-in_err-fresh-clause-full
returns-in_err-fresh-clause-full c =
    let after =
    count_zeroed c.self.inside.directory c.args.self.now c.args.first c.args.pages c.args.perm c.self.view_is
    c.requires.aligned c.requires.within c.requires.permission in
    let before = c.self.invariant in
    not_full c.from_residual-in_err-fresh.result _ c.from_residual-in_err-fresh.ensures.1
    (λ past. omega (arith, after, before, past))

pub invariant_of-self-2 : goal.invariant_of-self-2
invariant_of-self-2 c =
    let change = filled_after c.self.inside.directory c.reserve_range.new.self c.fill.new.self (c.args.first / 4096)
    (vec_len c.in_ok-fresh.fresh) c.args.pages c.args.perm c.in_ok-fresh.ensures.len c.reserve_range.ensures.pages
    c.fill.ensures in
    let after = total_filled c.self.inside.directory c.fill.new.self
    (c.args.first / 4096) c.args.pages c.args.perm change (omega arith) in
    let missing = c.missing-missing.ensures.value in
    let before = c.self.invariant in
    omega (arith, after, missing, before)

pub returns-clause-ok : goal.returns-clause-ok
returns-clause-ok c =
    let change = filled_after c.self.inside.directory c.reserve_range.new.self c.fill.new.self (c.args.first / 4096)
    (vec_len c.in_ok-fresh.fresh) c.args.pages c.args.perm c.in_ok-fresh.ensures.len c.reserve_range.ensures.pages
    c.fill.ensures in
    let start : c.args.first / 4096 * 4096 ≡ c.args.first = omega arith in
    memory_of_pages-zeroed (page_at c.self.inside.directory) (page_at c.fill.new.self)
    (c.args.first / 4096) c.args.pages c.args.perm (whole_pages c.self.inside.directory) change
    ∙ ap (λ a. zero_range (memory_of_pages (page_at c.self.inside.directory)) a (c.args.pages * 4096) c.args.perm) start
    ∙ ap (λ m. zero_range m c.args.first (c.args.pages * 4096) c.args.perm) c.self.view_is

pub returns-clause-full : goal.returns-clause-full
returns-clause-full c =
    let after =
    count_zeroed c.self.inside.directory c.args.self.now c.args.first c.args.pages c.args.perm c.self.view_is
    c.requires.aligned c.requires.within c.requires.permission in
    let before = c.self.invariant in
    (λ full. cc, λ past. absurd (omega (arith, after, before, past)))

pub returns-clause-elsewhere : goal.returns-clause-elsewhere
returns-clause-elsewhere c =
    elsewhere-by c.args.self.now (memory_of_pages (page_at c.fill.new.self))
    (zero_range c.args.self.now c.args.first (c.args.pages * 4096) c.args.perm) c.args.first (c.args.pages * 4096)
    (returns-clause-ok c) (elsewhere-zeroed c.args.self.now c.args.first (c.args.pages * 4096) c.args.perm)
