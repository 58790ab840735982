use Rattle.std.proofs.Common.{arith}
use Rattle.batch_stats.proofs.TextKeys.{key_keeps}
use Rattle.batch_stats.proofs.texts.TextRange.kept_keys.Goals as goal

pub returns-clause-kept : goal.returns-clause-kept
returns-clause-kept c = λ text bytes low high.
    let least = c.args.self.least in
    let greatest = c.args.self.greatest in
    key_keeps least.text.now greatest.text.now text c.requires.0.bytes c.requires.1.bytes bytes
    (omega (arith, low, c.new.ensures.low, c.requires.0.key)) (omega (arith, high, c.new.ensures.high, c.requires.1.key))
