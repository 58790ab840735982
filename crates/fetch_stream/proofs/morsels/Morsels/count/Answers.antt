use Rattle.std.proofs.Common.{sym, ap, ◌∙◌, length}
use Rattle.fetch_stream.specs.Morsels.{MorselsAt}
use Rattle.fetch_stream.proofs.Falling.{count_morsels}
use Rattle.fetch_stream.proofs.morsels.Morsels.count.Goals as goal

pub returns : goal.returns
returns c = sym (ap (λ (morsels : MorselsAt). length morsels.rows) (sym c.self.view_is) ∙ count_morsels c.self.inside.scan.now c.self.inside.count c.self.inside.begun)
