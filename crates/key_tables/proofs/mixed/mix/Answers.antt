use Rattle.std.proofs.Common.{◌≡◌, ◌∙◌, ◌++◌, ◌∷◌, [], List, ℕ, ap, refl, sym, take}
use Rattle.std.proofs.lemmas.List.{take_more}
use Rattle.key_tables.specs.inner.Mixed.{mix_more, mixed, mixed_from}
use Rattle.key_tables.proofs.mixed.mix.Goals as goal

mixed_push : (number : ℕ) (bytes : List ℕ) (byte : ℕ)
    → mixed_from number (bytes ++ byte ∷ []) ≡ mix_more (mixed_from number bytes) byte
mixed_push number [] byte = refl
mixed_push number (b ∷ bytes) byte = mixed_push (mix_more number b) bytes byte

pub bytes-preserved : goal.bytes-preserved
bytes-preserved c =
    let bytes = c.args.bytes.now in
    let i = c.bytes.byte-index in
    let was : c.bytes.number ≡ mixed (take i bytes) = c.bytes.invariant in
    ap (λ n. mix_more n c.from.result) was ∙ sym (mixed_push 0 (take i bytes) c.from.result)
    ∙ ap mixed
    (ap (λ b. take i bytes ++ b ∷ []) c.from.ensures ∙ sym (take_more bytes i 0 c.bytes-test.true))
