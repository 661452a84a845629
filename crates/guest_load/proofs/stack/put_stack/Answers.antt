use Rattle.std.proofs.Common.{◌≡◌, ◌*◌, ◌/◌, ◌-◌, inl, inr, length, map, string_bytes, Err, ap, ◌∙◌, arith}
use Rattle.std.proofs.lemmas.Bool.{cases_lt}
use Rattle.std.proofs.lemmas.Result.{err_from_is_err_and}
use Rattle.guest_mem.specs.declared.error.MapError.TheVariants.{Full}
use Rattle.guest_load.specs.Arguments.{sixteen_start, sixteen_bytes}
use Rattle.guest_load.specs.Segments.{pages_of}
use Rattle.guest_load.specs.Stack.{little_endian}
use Rattle.guest_load.proofs.StackLemmas.{length-arguments_bytes, stacked_pages, words_len, pointer_is, stack_put}
use Rattle.guest_load.proofs.StackLemmas.{laid_zeros, laid_over}
use Rattle.guest_load.proofs.stack.put_stack.Goals as goal

pub returns-in_err-map-clause-full : goal.returns-in_err-map-clause-full
returns-in_err-map-clause-full c refused =
    let p = err_from_is_err_and c.from_residual.result c.from_residual.ensures.1 in
    let asked : c.map.result ≡ Err Full = cc (p.1, p.2, refused, c.in_err-map.was) in
    omega (arith, c.map.ensures.full.0 asked, stacked_pages c.args.elf.now c.args.mem.now c.requires.before)

pub put_raw-requires : goal.put_raw-requires
put_raw-requires c =
    laid_zeros c.args.mem.now c.map.new.self c.in_ok-map.ensures.ok sixteen_start 16 (omega arith) (omega arith)

pub put_raw-requires-2 : goal.put_raw-requires-2
put_raw-requires-2 c =
    let args = map string_bytes c.args.args.now in
    let long = ap length (c.deref.ensures.value ∙ c.in_ok-arguments.ensures) ∙ length-arguments_bytes args in
    laid_over c.map.new.self c.put_raw.new.self sixteen_start sixteen_bytes c.put_raw.ensures.after
    (laid_zeros c.args.mem.now c.map.new.self c.in_ok-map.ensures.ok) (sixteen_start - c.args.arguments_len)
    (length c.deref.result.now) (omega (arith, c.requires.short))
    (omega (arith, long, c.requires.len, c.requires.short))

pub overflow_cast-pointer : goal.overflow_cast-pointer
overflow_cast-pointer c =
    omega (
      arith,
      words_len c.args.elf.now (map string_bytes c.args.args.now) c.args.arguments_len c.len.result
          c.in_ok-words-2.words.items c.requires.len c.requires.short (c.len.ensures ∙ c.in_ok-words-2.words.ok.0)
          (c.in_ok-words-2.ensures ∙ ap little_endian (c.deref-2.ensures.value ∙ c.in_ok-words.ensures)),
    )

pub overflow_sub-pointer : goal.overflow_sub-pointer
overflow_sub-pointer c =
    omega (
      arith,
      c.requires.short,
      words_len c.args.elf.now
          (map string_bytes c.args.args.now) c.args.arguments_len c.len.result c.in_ok-words-2.words.items
          c.requires.len
          c.requires.short (c.len.ensures ∙ c.in_ok-words-2.words.ok.0)
          (c.in_ok-words-2.ensures ∙ ap little_endian (c.deref-2.ensures.value ∙ c.in_ok-words.ensures)),
    )

pub put_raw-requires-3 : goal.put_raw-requires-3
put_raw-requires-3 c =
    let long = c.len.ensures ∙ c.in_ok-words-2.words.ok.0 in
    let few = words_len c.args.elf.now (map string_bytes c.args.args.now) c.args.arguments_len c.len.result
    c.in_ok-words-2.words.items c.requires.len c.requires.short long
    (c.in_ok-words-2.ensures ∙ ap little_endian (c.deref-2.ensures.value ∙ c.in_ok-words.ensures)) in
    let zeros = laid_zeros c.args.mem.now c.map.new.self c.in_ok-map.ensures.ok in
    let top = laid_over c.map.new.self c.put_raw.new.self sixteen_start sixteen_bytes c.put_raw.ensures.after zeros in
    laid_over c.put_raw.new.self c.put_raw-2.new.self
    (sixteen_start - c.args.arguments_len) c.deref.result.now c.put_raw-2.ensures.after top
    ((sixteen_start - c.args.arguments_len - c.len.result) / 16 * 16) (length c.deref-3.result.now)
    (omega (arith, few, c.requires.short))
    (omega (arith, few, c.requires.short, long, ap length c.deref-3.ensures.value))

pub returns-clause-pointer : goal.returns-clause-pointer
returns-clause-pointer c =
    pointer_is c.args.elf.now (map string_bytes c.args.args.now) c.args.arguments_len c.len.result
    c.in_ok-words-2.words.items c.requires.len (c.len.ensures ∙ c.in_ok-words-2.words.ok.0)
    (c.in_ok-words-2.ensures ∙ ap little_endian (c.deref-2.ensures.value ∙ c.in_ok-words.ensures))

pub returns-clause-memory : goal.returns-clause-memory
returns-clause-memory c =
    let image = c.args.elf.now in
    let args = map string_bytes c.args.args.now in
    let words = c.in_ok-words-2.ensures ∙ ap little_endian (c.deref-2.ensures.value ∙ c.in_ok-words.ensures) in
    stack_put image args c.args.mem.now c.map.new.self c.put_raw.new.self c.put_raw-2.new.self c.put_raw-3.new.self
    c.deref.result.now c.deref-3.result.now (sixteen_start - c.args.arguments_len)
    ((sixteen_start - c.args.arguments_len - c.len.result) / 16 * 16)
    (omega (arith, c.requires.len, c.requires.short)) c.requires.before c.in_ok-map.ensures.ok c.put_raw.ensures.after
    c.put_raw-2.ensures.after c.put_raw-3.ensures.after
    (c.deref.ensures.value ∙ c.in_ok-arguments.ensures) (c.deref-3.ensures.value ∙ words)
    (ap (λ n. sixteen_start - n) c.requires.len)
    (pointer_is image args c.args.arguments_len c.len.result c.in_ok-words-2.words.items c.requires.len
    (c.len.ensures ∙ c.in_ok-words-2.words.ok.0) words)

pub returns-clause-fits : goal.returns-clause-fits
returns-clause-fits c =
    let pages = stacked_pages c.args.elf.now c.args.mem.now c.requires.before in
    elim (cases_lt 65536 (pages_of c.args.elf.now)) [
      | inl more ↦ (let refused = c.map.ensures.full.1 (omega (arith, pages, more)) in let went = c.in_ok-map.was in cc)
      | inr fits ↦ fits
    ]
