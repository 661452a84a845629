use Rattle.std.proofs.Common.{Ok}
use Rattle.profile_cli.proofs.SymbolLemmas.{IsMapOf-built, lines-read}
use Rattle.profile_cli.proofs.program.read_symbols.Goals as goal

pub returns : goal.returns
returns c =
    let built = c.in_ok-syms.ensures in record {
      map = IsMapOf-built c.args.elf.now _ (Ok c.in_ok-syms.syms)
          (lines-read c.args.elf.now _ c.content.result.now c.content-2.result.now c.content-3.result.now
          c.in_ok-rows.ensures.sequences c.content.ensures.content c.content-2.ensures.content
          c.content-3.ensures.content)
          built.places built.entry_addresses built.entries built.functions built.functions_rise built.files
          built.files_rise;
      sound = c.maps_are_sound.ensures;
    }
