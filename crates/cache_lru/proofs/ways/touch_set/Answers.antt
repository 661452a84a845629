use Rattle.std.proofs.Common.{◌≡◌, ◌+◌, ◌-◌, ◌*◌, ℕ, Bool, not, take, drop, ap, sym, ◌∙◌, subst, arith}
use Rattle.std.specs.Prelude.{◌==◌}
use Rattle.std.specs.List.{list_any}
use borrow.Rule.Slice.PartMut.{put_mid}
use Rattle.cache_lru.specs.Lines.{lines_of}
use Rattle.cache_lru.proofs.LineLemmas.{lines_of-other}
use Rattle.cache_lru.proofs.ways.touch_set.Goals as goal

pub returns-clause-others : goal.returns-clause-others
returns-clause-others c =
    λ other apart. lines_of-other c.args.set other c.args.assoc c.args.lines.now c.touch.new.lines c.requires.within
    (omega arith) apart

pub returns-then-not-holds-clause-others : goal.returns-then-not-holds-clause-others
returns-then-not-holds-clause-others c =
    λ other apart. let eight : c.args.assoc ≡ 8 = c.if-assoc-eq-EIGHT.true in
    let start = c.args.set * c.args.assoc in
    subst (λ (n : ℕ). lines_of c.args.assoc other
    (put_mid start (start + n - start) c.args.lines.now c.bring_in.new.lines)
    ≡ lines_of c.args.assoc other c.args.lines.now) eight
    (lines_of-other c.args.set other c.args.assoc c.args.lines.now c.bring_in.new.lines c.requires.within
    (omega (arith, eight)) apart)

-- ---- sixteen lines, which don't hold the block

pub returns-then-not-holds-2-clause-others : goal.returns-then-not-holds-2-clause-others
returns-then-not-holds-2-clause-others c =
    λ other apart. let sixteen : c.args.assoc ≡ 16 = c.if-assoc-eq-SIXTEEN.true in
    let start = c.args.set * c.args.assoc in
    subst (λ (n : ℕ). lines_of c.args.assoc other
    (put_mid start (start + n - start) c.args.lines.now c.bring_in-then-not-holds-2.new.lines)
    ≡ lines_of c.args.assoc other c.args.lines.now) sixteen
    (lines_of-other c.args.set other c.args.assoc c.args.lines.now c.bring_in-then-not-holds-2.new.lines
    c.requires.within (omega (arith, sixteen)) apart)

pub returns-then-not-holds-2-clause-miss : goal.returns-then-not-holds-2-clause-miss
returns-then-not-holds-2-clause-miss c =
    let sixteen : c.args.assoc ≡ 16 = c.if-assoc-eq-SIXTEEN.true in
    let start = c.args.set * c.args.assoc in
    let holds : ℕ → Bool =
    λ n. list_any (λ kept. kept == c.args.block) (take n (drop start c.args.lines.now)) in
    let long : 16 ≡ start + 16 - start = omega arith in
    let absent = sym c.holds-then-assoc-eq-SIXTEEN.ensures ∙ c.if-not-holds-2.true in
    subst (λ (n : ℕ). (16 == n) ≡ not (holds n)) (sym sixteen) (sym (ap not (ap holds long ∙ absent)))
