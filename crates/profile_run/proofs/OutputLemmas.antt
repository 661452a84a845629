-- What the sinks have taken of a step's output, and what they tell of it.
use Rattle.std.proofs.Common.{◌≡◌, ℕ, ◌<◌, List, [], ◌∷◌, ◌++◌, length, take, drop, Option, None, Some, Err}
use Rattle.std.proofs.Common.{refl, ap, sym, subst, ◌∙◌, append_assoc}
use Rattle.std.proofs.Common.{arith}
use Rattle.std.proofs.lemmas.List.{append-nil, length-take-le, take-append-drop}
use Rattle.std.proofs.lemmas.List.Concat.{flat_map-append}
use Rattle.outside.specs.Outside.{Outside, Stream}
use Rattle.outside.specs.Journal.{AreWritten, TellsWrites, Wrote}
use Rattle.outside.specs.Write.{taken_more}
use Rattle.outside.specs.declared.sink.WriteError.{WriteError}
use Rattle.profile_run.proofs.Others.{tells_nothing_more, tells_then}
use Rattle.profile_run.specs.Trace.{RunStep, piece_to, pieces}
use Rattle.profile_run.specs.inner.Standing.{HasSent, HasWritten, SendsAll, TakesFront}

pub nothing_more : (t : Option (List ℕ)) → t ≡ taken_more t []
nothing_more None = refl
nothing_more (Some xs) = ap Some (sym (append-nil xs))

-- ---- pieces, one after another

written_on : (xs ys : List (List ℕ)) (ws vs : List Wrote) → AreWritten xs ws → AreWritten ys vs
    → AreWritten (xs ++ ys) (ws ++ vs)
written_on [] ys ws vs none more = subst (λ w. AreWritten ys (w ++ vs)) (sym none) more
written_on (x ∷ xs) ys ws vs (own, rest, is, whole, others) more =
    (own, rest ++ vs, ap (λ w. w ++ vs) is ∙ append_assoc own rest vs, whole, written_on xs ys rest vs others more)

pub wrote_nothing : (s : Stream) → HasWritten [] s s
wrote_nothing s = ([], refl, tells_nothing_more s.writes)

pub wrote_on : (xs ys : List (List ℕ)) (a b c : Stream) → HasWritten xs a b → HasWritten ys b c
    → HasWritten (xs ++ ys) a c
wrote_on xs ys a b c first next = (
  first.0 ++ next.0,
  written_on xs ys first.0 next.0 first.1 next.1,
  tells_then a.writes b.writes c.writes first.0 next.0 first.2 next.2,
)

pub pieces-push : (descriptor : ℕ) (xs : List RunStep) (x : RunStep)
    → pieces descriptor (xs ++ x ∷ []) ≡ pieces descriptor xs ++ piece_to descriptor x.output
pieces-push descriptor xs x =
    flat_map-append (λ (y : RunStep). piece_to descriptor y.output) xs (x ∷ [])
    ∙ ap (λ ps. pieces descriptor xs ++ ps) (append-nil (piece_to descriptor x.output))

-- a step without output
pub sends_nothing : (o r : Stream) → SendsAll None o r o r
sends_nothing o r = record {
  out = nothing_more o.taken;
  err = nothing_more r.taken;
  out_told = wrote_nothing o;
  err_told = wrote_nothing r;
}

-- a front of the bytes was taken that is not the whole
pub taken_front : (error : WriteError) (bytes : List ℕ) (old new : Stream)
    → ((count : ℕ) × (count < length bytes) × (new.taken ≡ taken_more old.taken (take count bytes)))
    → TellsWrites {U = Unit {0}} old.writes bytes (Err error) new.writes → TakesFront error bytes old new
taken_front error bytes old new t told = record {
  count = take t.0 bytes;
  front = (drop t.0 bytes, sym (take-append-drop t.0 bytes));
  short =
      (let fewer = t.1 in
      let many = length-take-le t.0 bytes (omega (arith, fewer)) in
      omega (arith, fewer, many));
  taken = t.2;
  writes = told;
}

-- sinks to which nothing was written since
pub still_sent : (past : List RunStep) (old now new : Outside) → new.out ≡ now.out → new.err ≡ now.err
    → HasSent past old now → HasSent past old new
still_sent past old now new out err sent = record {
  out = ap (λ (s : Stream). s.taken) out ∙ sent.out;
  err = ap (λ (s : Stream). s.taken) err ∙ sent.err;
  out_told = subst (λ s. HasWritten (pieces 1 past) old.out s) (sym out) sent.out_told;
  err_told = subst (λ s. HasWritten (pieces 2 past) old.err s) (sym err) sent.err_told;
}
