use Rattle.std.proofs.Common.{arith, rules}
use Rattle.kernels.proofs.Alike.{rows_alike}
use Rattle.kernels.proofs.mask.Mask.of.Goals as goal

pub returns : goal.returns
returns c = rows_alike c.in_ok-words.words.items c.of.result c.args.truth c.div_ceil.result c.args.len (c.in_ok-words.ensures.items_if_clones_equal (λ y same. search rules)) (omega (arith, c.div_ceil.ensures)) c.of.ensures
