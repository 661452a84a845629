use Rattle.std.proofs.Common.{◌≡◌, ℕ, ◌+◌, ◌%◌, ◌<◌, List, ◌∷◌, length, map, get_or, sym, subst, ap, ◌∙◌, arith}
use Rattle.std.proofs.lemmas.List.{length-map}
use Rattle.std.specs.List.{remove}
use Rattle.event_costs.specs.declared.numbers.ThreadNo.{ThreadNo}
use Rattle.guest_sched.specs.RunQueue.{RunQueue, with_drawn_turn, to_front}
use Rattle.guest_sched.specs.inner.Ring.{run_queue_of}
use Rattle.guest_sched.proofs.ReadyLemmas.{front_is}
use Rattle.guest_sched.specs.declared.run_queue.Ready.{Ready}
use Rattle.guest_sched.proofs.run_queue.RunQueue.draw.Goals as goal

abbrev with_turn : List ThreadNo → ℕ → RunQueue → RunQueue
with_turn ready left line = record line { ready = ready; steps_left = left }

pub returns : goal.returns
returns c =
    let items = c.self.inside.ready.items in
    let thread = λ (r : Ready). r.thread in
    let place = c.args.first % c.len.result in
    let left = 1 + c.args.second % c.self.inside.quantum in
    let len : c.len.result ≡ length items = c.len.ensures ∙ c.self.inside.ready.ok.0 in
    let some : 0 < length (map thread items)
    = subst (λ (l : RunQueue). 0 < length l.ready) (sym c.self.view_is) c.requires.ready in
    let within : place < length items = omega (arith, len, some, length-map items thread) in
    let rest : c.remove.new.self.items ≡ remove items place = rw c.unwrap-chosen.ensures at c.remove.ensures.items in
    let chosen : c.unwrap-chosen.result ≡ get_or items place c.unwrap-chosen.result
    = rw c.unwrap-chosen.ensures at c.remove.ensures.value in
    let ready : map thread c.push_front_reserved.new.self.items
    ≡ to_front (c.args.first % length (map thread items)) (map thread items) =
    ap (map thread) (c.push_front_reserved.ensures.items ∙ ap (λ (rs : List Ready). c.unwrap-chosen.result ∷ rs) rest)
    ∙ front_is thread items place c.unwrap-chosen.result within chosen
    ∙ ap (λ n. to_front (c.args.first % n) (map thread items)) (len ∙ sym (length-map items thread)) in
    subst (λ (l : RunQueue). with_turn (map thread c.push_front_reserved.new.self.items) left (run_queue_of c.self.inside)
    ≡ with_drawn_turn c.args.first c.args.second l) c.self.view_is
    (ap (λ ts. with_turn ts left (run_queue_of c.self.inside)) ready)
