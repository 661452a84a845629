use Rattle.std.proofs.Common.{◌≡◌, ◌∙◌, List, Some, ap, map, string_bytes, subst}
use Rattle.sorted_words.specs.SortedWords.{IsSorting}
use Rattle.sorted_words.specs.Sorting.{Syntax, sorting}
use Rattle.sorted_words.specs.Syntaxes.{syntax_of}
use Rattle.command_words.specs.Request.{read_request}
use Rattle.command_words.specs.Meaning.{meaning_of}
use Rattle.command_words.proofs.RequestLemmas.{all_named, asked_is}
use Rattle.command_words.proofs.WithinLemmas.{within_as}
use Rattle.command_words.proofs.words.read_words.Goals as goal

pub sort-requires : goal.sort-requires
sort-requires c = all_named c.deref.result.now (ap (map syntax_of) c.deref.ensures.value ∙ c.in_ok-commands.ensures)

pub returns-in-Some : goal.returns-in-Some
returns-in-Some c =
    let words = map (λ word. string_bytes word) c.args.words.now in
    let is : meaning_of c.in_ok-request-in-Some.field-0 ≡ read_request words =
    c.in_ok-request-in-Some.ensures
    ∙ asked_is words c.in-Some.given
    (subst (λ (syntaxes : List Syntax). IsSorting (sorting syntaxes words) (Some c.in-Some.given))
    (ap (map syntax_of) c.deref.ensures.value ∙ c.in_ok-commands.ensures)
    (rw c.in-Some.is at c.in_ok-given.ensures)) in
    record { asked = is; within = within_as words _ is }
