use Rattle.std.proofs.Common.{arith}
use Rattle.scan_workers.proofs.Claiming.{draws}
use Rattle.scan_workers.proofs.claims.draw.Goals as goal

pub fetch_add-requires : goal.fetch_add-requires
fetch_add-requires c = (c.requires.word.0, omega (arith, c.requires.word.1), draws _ _ _ _)
