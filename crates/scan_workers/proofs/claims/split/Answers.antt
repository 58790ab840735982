use Rattle.std.proofs.Common.{arith}
use Rattle.scan_workers.proofs.Claiming.{comes}
use Rattle.scan_workers.proofs.claims.split.Goals as goal

pub split_seat-requires : goal.split_seat-requires
split_seat-requires c = (c.requires.word.0, omega (arith, c.requires.word.1), comes _ _)
