use Rattle.std.proofs.Common.{◌≡◌, ◌≢◌, subst}
use Rattle.std.specs.Option.{IfSome, IfNone}
use Rattle.std.specs.List.{All}
use Rattle.std.proofs.lemmas.Option.{IfSome_then}
use Rattle.elf_read.specs.Image.{Image}
use Rattle.elf_read.specs.Sections.{IsHeld}
use Rattle.elf_read.specs.Strings.{IsPart, part_of}
use Rattle.elf_read.proofs.SectionLemmas.{section-found, section-none}
use Rattle.elf_read.proofs.elf.Elf.section.Goals as goal

pub returns-clause-none : goal.returns-clause-none
returns-clause-none c =
    let r = c.find_section.result in
    let none = section-none c.self.inside.bytes.now c.args.name.now r c.find_section.ensures.first in
    subst (λ (v : Image). IfNone r (All (λ s. part_of v.bytes s.name ≢ c.args.name.now) v.sections)) c.self.view_is none

pub returns-clause-name : goal.returns-clause-name
returns-clause-name c =
    let r = c.find_section.result in
    let found =
    section-found c.self.inside.bytes.now c.args.name.now r c.find_section.ensures.first
    c.self.invariant.sections_held in
    subst (λ (v : Image). IfSome r (λ s. part_of v.bytes s.name ≡ c.args.name.now)) c.self.view_is
    (IfSome_then r found (λ s both. both.0))

pub returns-clause-name_in_file : goal.returns-clause-name_in_file
returns-clause-name_in_file c =
    subst (λ (v : Image). IfSome c.find_section.result
    (λ s. IsPart v.bytes s.name)) c.self.view_is c.find_section.ensures.part

pub returns-clause-in_file : goal.returns-clause-in_file
returns-clause-in_file c =
    let r = c.find_section.result in
    let found =
    section-found c.self.inside.bytes.now c.args.name.now r c.find_section.ensures.first
    c.self.invariant.sections_held in
    subst (λ (v : Image). IfSome r (IsHeld v.bytes)) c.self.view_is (IfSome_then r found (λ s both. both.1))
