use Rattle.std.proofs.Common.{not, ap, ◌+◌, ◌∙◌}
use Rattle.kernels.specs.Ranges.{is_within, long_at}
use Rattle.kernels.proofs.OctetBits.{turned_back, turned_bit}
use Rattle.kernels.proofs.longs.LongRangeMembership.passes_word.Goals as goal

pub returns : goal.returns
returns c = λ row lt.
    let s = c.args.self.now in
    turned_bit c.outside_word.result row lt ∙ ap not (c.outside_word.ensures row lt)
    ∙ turned_back (is_within s.least s.most (long_at s.values.now (c.args.from + row)))
