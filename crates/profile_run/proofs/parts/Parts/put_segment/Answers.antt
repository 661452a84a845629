use Rattle.std.proofs.Common.{◌≡◌, ℕ, ◌+◌, ◌-◌, ◌∙◌, arith, subst}
use Rattle.std.proofs.lemmas.Bool.Decides.{nat_tests}
use Rattle.outside.specs.Outside.{shelf_of}
use Rattle.profile_run.specs.inner.Standing.{ArePut, CanPut}
use Rattle.profile_run.proofs.PutThreadLemmas as puts
use Rattle.profile_run.proofs.PutThreadLemmas.{AreQuietIn}
use Rattle.profile_run.proofs.parts.Parts.put_segment.Given
use Rattle.profile_run.proofs.parts.Parts.put_segment.Goals.{After-min-number}
use Rattle.profile_run.proofs.parts.Parts.put_segment.Goals as goal

pub returns-in_err-put_thread-clause-puts : goal.returns-in_err-put_thread-clause-puts
returns-in_err-put_thread-clause-puts g c = λ plan same asked is put.
    let m = g.W.Watch.meaning in
    let p = c.args.self.now.head.part in
    let u = c.args.self.now.head.trigger in
    let at = c.threads.invariant.puts plan same asked is put in
    let k = c.threads.number in
    let contents = shelf_of g.F.Folder c.threads.folder in
    let after = shelf_of g.F.Folder c.put_thread.new.folder in
    let faults = g.F.Folder.put_faults c.threads.folder in
    let now = g.F.Folder.put_faults c.put_thread.new.folder in
    let fault = c.in_err-put_thread.field-0.0 in
    let refused =
    puts.went m plan p u c.args.options.now asked (k + 1) c.threads.self c.threads.recorder c.threads.watch contents at
    c.put_thread.result faults now c.put_thread.new.self c.put_thread.new.recorder c.put_thread.new.watch after
    (c.put_thread.ensures.puts plan same asked at.putting
    (puts.have_put m plan p u c.args.options.now asked (k + 1) c.threads.self c.threads.recorder c.threads.watch
    contents at)) in
    puts.stopped m plan p u (c.args.threads + 1) c.from_residual.result fault (g.F.Folder.put_faults c.args.folder.now)
    now c.put_thread.new.self c.put_thread.new.recorder c.put_thread.new.watch after c.from_residual.ensures.1
    (puts.refused_since _ _ _ _ _ faults fault after now c.threads.invariant.never_falls
    (puts.refused_before m plan p u (k + 1 + 1) (c.args.threads + 1) faults now fault after
    (grind (arith, nat_tests, c.threads-test.true)) (rw c.in_err-put_thread.was at refused)))

pub threads-preserved : goal.threads-preserved
threads-preserved g c = record {
  within = grind (arith, nat_tests, c.threads-test.true);
  can = c.in_ok-put_thread.ensures.can;
  puts = λ plan same asked is put.
      (let at = c.threads.invariant.puts plan same asked is put in
      let p = c.args.self.now.head.part in
      let u = c.args.self.now.head.trigger in
      let contents = shelf_of g.F.Folder c.threads.folder in
      let went =
      puts.went g.W.Watch.meaning plan p u c.args.options.now asked (c.threads.number + 1) c.threads.self
      c.threads.recorder c.threads.watch contents at c.put_thread.result (g.F.Folder.put_faults c.threads.folder)
      (g.F.Folder.put_faults c.put_thread.new.folder) c.put_thread.new.self c.put_thread.new.recorder
      c.put_thread.new.watch (shelf_of g.F.Folder c.put_thread.new.folder)
      (c.put_thread.ensures.puts plan same asked at.putting
      (puts.have_put g.W.Watch.meaning plan p u c.args.options.now asked (c.threads.number + 1) c.threads.self
      c.threads.recorder c.threads.watch contents at)) in
      rw c.in_ok-put_thread.was at went);
  known = λ other. c.put_thread.ensures.known other ∙ c.threads.invariant.known other;
  live = c.put_thread.ensures.live ∙ c.threads.invariant.live;
  part = c.put_thread.ensures.part ∙ c.threads.invariant.part;
  never_falls = omega (arith, c.threads.invariant.never_falls, c.put_thread.ensures.never_falls);
  loads = c.put_thread.ensures.loads ∙ c.threads.invariant.loads;
}

-- ---- threads that are quiet are passed over

abbrev passed : (g : Given.Over) (c : After-min-number g) → ℕ
passed g c = c.min-number.result - c.threads.number

next : (g : Given.Over) (c : After-min-number g)
    → (c.threads.number + 1) + passed g c ≡ c.min-number.result + 1
next g c = omega (arith, c.min-number.ensures, c.saturating_add.ensures, c.threads.invariant.within, c.if-quiet-gt0.true)

quiet : (g : Given.Over) (c : After-min-number g) → AreQuietIn c.threads.recorder (c.threads.number + 1) (passed g c)
quiet g c t low high =
    c.quiet_from-quiet.ensures t low
    (omega (arith, c.min-number.ensures, c.saturating_add.ensures, c.threads.invariant.within, low, high))

pub threads-preserved-then-quiet-gt0 : goal.threads-preserved-then-quiet-gt0
threads-preserved-then-quiet-gt0 g c =
    let m = g.W.Watch.meaning in record {
      within = omega (arith, c.min-number.ensures);
      can =
          subst (λ (n : ℕ). CanPut m g.W.Watch.fresh c.args.syms.now c.args.options.now n c.threads.self.head
          c.threads.recorder c.threads.watch) (next g c)
          (puts.quiet_can m g.W.Watch.fresh c.args.syms.now c.args.options.now (passed g c) (c.threads.number + 1)
          c.threads.self.head c.threads.recorder c.threads.watch (quiet g c) c.threads.invariant.can);
      puts = λ plan same asked is put.
          subst (λ (n : ℕ). ArePut m plan c.args.self.now.head.part c.args.self.now.head.trigger n c.threads.self
          c.threads.recorder c.threads.watch (shelf_of g.F.Folder c.threads.folder)) (next g c)
          (puts.quiet_put m plan c.threads.recorder c.threads.watch c.args.self.now.head.part
          c.args.self.now.head.trigger (passed g c) (c.threads.number + 1) c.threads.self
          (shelf_of g.F.Folder c.threads.folder) (quiet g c) (c.threads.invariant.puts plan same asked is put));
      known = c.threads.invariant.known;
      live = c.threads.invariant.live;
      part = c.threads.invariant.part;
      never_falls = c.threads.invariant.never_falls;
      loads = c.threads.invariant.loads;
    }
