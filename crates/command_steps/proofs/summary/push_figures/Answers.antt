-- The lines come one after another, in this order.
use Rattle.std.proofs.Common.{◌≡◌, List, ◌++◌, ℕ, append_assoc, ap, codes, ◌∙◌}
use Rattle.std.proofs.lemmas.Result.{on_ok_weaker}
use Rattle.command_steps.specs.Summary.{figure}
use Rattle.command_steps.proofs.summary.push_figures.Goals as goal

-- a text that one more piece was added to
one_more : (start pieces piece t u : List ℕ) → t ≡ start ++ pieces → u ≡ t ++ piece → u ≡ start ++ (pieces ++ piece)
one_more start pieces piece t u before more = more ∙ ap (λ s. s ++ piece) before ∙ append_assoc start pieces piece

-- a text that six pieces were added to
six_pieces : (start t1 t2 t3 t4 t5 t6 a b c d e f : List ℕ)
    → t1 ≡ start ++ a → t2 ≡ t1 ++ b → t3 ≡ t2 ++ c → t4 ≡ t3 ++ d → t5 ≡ t4 ++ e → t6 ≡ t5 ++ f
    → t6 ≡ start ++ (a ++ b ++ c ++ d ++ e ++ f)
six_pieces start t1 t2 t3 t4 t5 t6 a b c d e f is1 is2 is3 is4 is5 is6 =
    let two = one_more start a b t1 t2 is1 is2 in
    let three = one_more start (a ++ b) c t2 t3 two is3 in
    let four = one_more start (a ++ b ++ c) d t3 t4 three is4 in
    let five = one_more start (a ++ b ++ c ++ d) e t4 t5 four is5 in
    one_more start (a ++ b ++ c ++ d ++ e) f t5 t6 five is6

pub returns : goal.returns
returns c =
    let f = c.args.figures.now in
    let start = c.args.text.now in
    let t1 = c.push_figure.new.text in
    let t2 = c.push_figure-2.new.text in
    let t3 = c.push_figure-3.new.text in
    let t4 = c.push_figure-4.new.text in
    let t5 = c.push_figure-5.new.text in
    let t6 = c.push_figure-6.new.text in
    let size : ℕ → List ℕ = λ n. figure (codes "demo ") n (codes "\n") in
    let len = figure (codes "elf ") f.len (codes " bytes\n") in
    let code : ℕ → List ℕ = λ n. figure (codes "end exited ") n (codes "\n") in
    let steps = figure (codes "steps ") f.steps (codes "\n") in
    let threads : ℕ → List ℕ = λ n. figure (codes "threads ") n (codes "\n") in
    let files = figure (codes "files ") f.files (codes "\n") in
    on_ok_weaker c.push_figure-6.result
    (λ (last : t6 ≡ t5 ++ files).
    six_pieces start t1 t2 t3 t4 t5 t6 (size f.size) len (code f.code) steps (threads f.threads) files
    (c.in_ok-push_figure.ensures ∙ ap (λ n. start ++ size n) c.from.ensures)
    c.in_ok-push_figure-2.ensures
    (c.in_ok-push_figure-3.ensures ∙ ap (λ n. t2 ++ code n) c.from-2.ensures)
    c.in_ok-push_figure-4.ensures
    (c.in_ok-push_figure-5.ensures ∙ ap (λ n. t4 ++ threads n) c.from-3.ensures)
    last)
    c.push_figure-6.ensures
