use Rattle.std.proofs.Common.{◌<◌, ap, ◌∙◌, length, arith}
use Rattle.fetch_stream.specs.Morsels.{MorselsAt, morsel_stream}
use Rattle.fetch_stream.proofs.Falling.{count_morsels, morsel_at}
use Rattle.fetch_stream.proofs.morsels.Morsels.ahead.Goals as goal

pub morsel_rest-rest-requires : goal.morsel_rest-rest-requires
morsel_rest-rest-requires c =
    let long = ap (λ (morsels : MorselsAt). length morsels.rows) c.self.view_is in
    let there : c.args.number < c.self.inside.count = omega (arith, c.requires, long, count_morsels c.self.inside.scan.now c.self.inside.count c.self.inside.begun) in
    record { falls = (c.self.inside.count, c.self.invariant, there) }

pub returns : goal.returns
returns c =
    let long = ap (λ (morsels : MorselsAt). length morsels.rows) c.self.view_is in
    let there : c.args.number < c.self.inside.count = omega (arith, c.requires, long, count_morsels c.self.inside.scan.now c.self.inside.count c.self.inside.begun) in
    c.made_ahead.ensures ∙ morsel_at c.self.inside.scan.now c.self.inside.count c.args.number c.self.inside.begun there ∙ ap (λ (morsels : MorselsAt). morsel_stream morsels c.args.number) c.self.view_is
