use Rattle.guest_mem.proofs.Permissions.{lawful_or_read}
use Rattle.guest_mem.proofs.page.granted_permission.Goals as goal

pub returns-then-permission-eq-WRITE-clause-lawful : goal.returns-then-permission-eq-WRITE-clause-lawful
returns-then-permission-eq-WRITE-clause-lawful c = lawful_or_read c.args.permission c.requires
