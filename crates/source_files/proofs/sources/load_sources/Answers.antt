use Rattle.std.proofs.Common.{[], ◌∙◌, arith}
use Rattle.source_files.proofs.SourceLemmas.{AreSources-step}
use Rattle.source_files.proofs.TellsLemmas.{Tells-more, Tells-none, Tells-step, Tells-stopped, Tells-unloaded}
use Rattle.source_files.proofs.sources.load_sources.Goals as goal

pub returns-in_err-items-clause-told : goal.returns-in_err-items-clause-told
returns-in_err-items-clause-told g c =
    Tells-stopped _ 0 [] _ _ _ (Tells-none _ _) c.from_residual.ensures.0

pub returns-in_err-source-clause-told : goal.returns-in_err-source-clause-told
returns-in_err-source-clause-told g c =
    Tells-unloaded _ _ _ c.name-item.result _ _ _ _ _ c.names.invariant.tells c.names-test.true c.name-item.is
    c.in_err-source.ensures.told c.from_residual-in_err-source.ensures.0

pub returns-in_err-try_clone-clause-told : goal.returns-in_err-try_clone-clause-told
returns-in_err-try_clone-clause-told g c =
    Tells-stopped _ _ _ _ _ _
    (Tells-more _ _ _ c.name-item.result c.in_ok-source.source _ _ _ c.names.invariant.tells c.names-test.true
    c.name-item.is c.in_ok-source.ensures.told) c.from_residual-in_err-try_clone.ensures.0

pub returns-in_err-push-clause-told : goal.returns-in_err-push-clause-told
returns-in_err-push-clause-told g c =
    Tells-stopped _ _ _ _ _ _
    (Tells-more _ _ _ c.name-item.result c.in_ok-source.source _ _ _ c.names.invariant.tells c.names-test.true
    c.name-item.is c.in_ok-source.ensures.told) c.from_residual-in_err-push.ensures.0

pub names-preserved : goal.names-preserved
names-preserved g c = record {
  contents = c.load_source.ensures.same_contents ∙ c.names.invariant.contents;
  puts = c.load_source.ensures.same_put_faults ∙ c.names.invariant.puts;
  early = omega (arith, c.names.invariant.early, c.load_source.ensures.never_falls);
  sources = AreSources-step _ _ _ _ _ c.args.names.now c.names.name-index c.name-item.result
      c.in_ok-try_clone.field-0 c.names.items.items c.push.new.self.items c.in_ok-source.source
      c.names.invariant.sources c.names.invariant.early c.load_source.ensures.never_falls c.names.invariant.contents
      c.names-test.true c.name-item.is c.in_ok-try_clone.ensures c.in_ok-source.ensures.source
      c.in_ok-push.ensures.items;
  tells = Tells-step _ _ _ _ c.name-item.result c.in_ok-try_clone.field-0 c.in_ok-source.source _ _ _
      c.names.invariant.tells c.names-test.true
      c.name-item.is c.in_ok-source.ensures.told c.in_ok-try_clone.ensures c.in_ok-push.ensures.items;
}
