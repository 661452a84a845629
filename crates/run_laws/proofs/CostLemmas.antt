-- The sums of a run's profile, as sums over its events.
use Rattle.std.proofs.Common.{◌≡◌, ◌≢◌, ℕ, ◌<◌, ◌==◌, ◌↔◌, Bool, true, List, length, sym, ap, ◌∙◌, arith, sum_by}
use Rattle.std.proofs.Common.{get_or}
use Rattle.call_graph.specs.Groups.{Grouping, is_member}
use Rattle.call_graph.specs.Reach.{IsGroup, SameGroup, Steps}
use Rattle.run_laws.proofs.Others.{arcs_within, is_group}
use Rattle.cg_read.specs.Profiles.{Contents}
use Rattle.cg_read.specs.Totals.{total}
use Rattle.cycles.specs.Costs.{IsGroupsOf, IsInclusive, call_arcs, group_at, inclusive_cost}
use Rattle.cycles.specs.Limits.{AreAllWithin, pair_cost}
use Rattle.profile_run.specs.Program.{Program, head_of_run, CanRun}
use Rattle.profile_run.specs.Trace.{Makes, RunStep}
use Rattle.once_each.specs.Graphs.{AreOwn, AreOwnIn, IsOwn}
use Rattle.once_each.specs.Once.{once, once_pair}
use Rattle.once_each.specs.Profiles.{IsProfileOf, Numbering}
use Rattle.once_each.specs.Texts.{IsReadOf, Naming, numbers_in}
use Rattle.once_each.proofs.BoundLemmas.{sum_most}
use Rattle.once_each.proofs.KnownLemmas.{function_once, known_groups}
use Rattle.once_each.proofs.LawLemmas.{group_once, pair_once, self_sum}
use Rattle.once_each.proofs.TextLemmas.{numbered_own, numbered_parts, read_is}
use Rattle.reads_back.specs.Rows.{naming}
use Rattle.run_laws.proofs.Others.{own_texts}
use Rattle.run_laws.specs.Profiles.{CountOnce, IsProfileOfRun, graph_of_run, number_in}
use Rattle.run_laws.specs.Profiles as run
use Rattle.run_laws.specs.Runs.{events_with_costs, events_with_stacks, thread_rows}
use Rattle.run_laws.proofs.EventLemmas.{have_stacks, of_map, sized_seen, tops}
use Rattle.run_laws.proofs.PartLemmas.{parts_of_trace}

module _ (guest : Program) (can : CanRun guest) (past : List RunStep) (makes : Makes guest past) (p : Contents)
    (is : IsProfileOfRun guest past p) where
  abbrev names : Naming
  names = naming (head_of_run guest) guest.syms

  abbrev numbers : Numbering
  numbers = numbers_in p names

  read : IsReadOf guest.syms (events_with_costs past) names p
  read = record {
    profile = is.profile;
    parts = thread_rows guest past;
    exact = parts_of_trace guest can past makes;
    events = is.rows.events;
    self_rows = is.rows.self_rows;
    call_rows = is.rows.call_rows;
  }

  pub of_trace : IsProfileOf guest.syms (events_with_costs past) numbers p
  of_trace = read_is guest.syms (events_with_costs past) names p read

  own : AreOwn guest.syms names.func
  own f known g known_g same =
      (own_texts (head_of_run guest) guest.syms can.sound).functions g f known_g known same

  own_in : AreOwnIn guest.syms (graph_of_run guest past) numbers.func
  own_in = numbered_parts guest.syms (events_with_costs past) names p read own (of_map guest can past)

  own_number : (f : ℕ) → f < length guest.syms.functions → number_in guest p f < length p.functions
      → IsOwn guest.syms numbers.func f
  own_number f known there = numbered_own guest.syms (events_with_costs past) names p read f own known there

  -- groups

  pub group_is : (member : ℕ → Bool) (kind : ℕ) → kind < length p.events → IsGroup (Steps (call_arcs p)) member
      → inclusive_cost member p kind ≡ once (λ f. member (number_in guest p f)) kind (events_with_stacks past)
  group_is member kind within group =
      group_once guest.syms (events_with_costs past) numbers p of_trace member kind (tops guest can past makes) within
      group
      ∙ ap (once (λ f. member (number_in guest p f)) kind) (sym (have_stacks guest can past makes))

  pub function_is : (group member : ℕ → Bool) (func kind : ℕ) → kind < length p.events
      → func < length guest.syms.functions → number_in guest p func < length p.functions
      → IsGroup (Steps (graph_of_run guest past)) group → group func ≡ true
      → IsGroup (Steps (call_arcs p)) member → member (number_in guest p func) ≡ true
      → inclusive_cost member p kind ≡ once group kind (events_with_stacks past)
  function_is group member func kind within known there of_graph here of_profile theirs =
      function_once guest.syms (events_with_costs past) (of_map guest can past) numbers p of_trace own_in group member func
      kind (tops guest can past makes) within known (own_number func known there) of_graph here of_profile theirs
      ∙ ap (once group kind) (sym (have_stacks guest can past makes))

  pub groups_are : (f g : ℕ) → f < length guest.syms.functions → g < length guest.syms.functions
      → number_in guest p f < length p.functions
      → SameGroup (Steps (graph_of_run guest past)) f g
      ↔ SameGroup (Steps (call_arcs p)) (number_in guest p f) (number_in guest p g)
  groups_are f g known_f known_g there =
      known_groups guest.syms (events_with_costs past) (of_map guest can past) numbers p of_trace own_in f g
      known_f known_g
      (own_number f known_f there)

  pub inclusive_is : (groups : Grouping) (costs : List (List ℕ)) → IsGroupsOf p groups → IsInclusive p groups costs
      → CountOnce guest past p groups costs
  inclusive_is groups costs of_profile inclusive = record {
    count = inclusive.count;
    width = inclusive.width;
    exact = λ group kind within event. inclusive.exact group kind within event
        ∙ group_is (is_member groups group) kind event
        (is_group of_profile (arcs_within p is.profile) group);
  }

  -- pairs

  pub pair_is : (groups : Grouping) (caller callee kind : ℕ) → IsGroupsOf p groups → kind < length p.events
      → caller < length p.functions → callee < length p.functions
      → group_at groups caller ≢ group_at groups callee
      → pair_cost caller callee p.call_rows kind ≡ run.pair_once guest past p caller callee kind
  pair_is groups caller callee kind of_profile within from to apart =
      pair_once guest.syms (events_with_costs past) numbers p of_trace caller callee kind within
      (λ same. apart ((of_profile.numbered.same caller callee from to).1 same))
      ∙ ap (once_pair (λ f. number_in guest p f == caller) (λ f. number_in guest p f == callee) kind)
      (sym (have_stacks guest can past makes))

  -- totals and limits

  pub total_is : (kind : ℕ) → kind < length p.events
      → total p kind ≡ sum_by (λ x. get_or x.cost kind 0) (events_with_stacks past)
  total_is kind within =
      self_sum guest.syms (events_with_costs past) numbers p of_trace (λ f. true) kind within
      ∙ ap (sum_by (λ x. get_or x.cost kind 0)) (sym (have_stacks guest can past makes))

  pub none_over : AreAllWithin p
  none_over position sum of =
      let most = sum_most guest.syms (events_with_costs past) numbers p of_trace (sized_seen guest can past makes) position
      sum of in
      omega (arith, most)
