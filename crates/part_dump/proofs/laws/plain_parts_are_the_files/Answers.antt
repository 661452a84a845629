use Rattle.part_dump.proofs.ApartLemmas.{files_apart}
use Rattle.part_dump.proofs.FileLemmas.{plain_files}
use Rattle.part_dump.proofs.laws.plain_parts_are_the_files.Goals as goal

pub returns-clause-puts : goal.returns-clause-puts
returns-clause-puts c rows_of head syms base asked trace tried watch =
    plain_files rows_of head syms base watch asked trace tried

pub returns-clause-names : goal.returns-clause-names
returns-clause-names c rows_of head syms base asked trace few = files_apart rows_of head syms base asked trace few
