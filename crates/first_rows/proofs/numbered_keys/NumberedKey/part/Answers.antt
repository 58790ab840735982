use Rattle.std.proofs.Common.{◌∙◌}
use Rattle.scan_base.specs.Value.{value_of}
use Rattle.first_rows.proofs.Coded.{part_rest}
use Rattle.first_rows.proofs.numbered_keys.NumberedKey.part.Goals as goal

pub returns : goal.returns
returns c = c.rest.ensures ∙ part_rest c.args.self.now c.args.place (value_of c.cell_at.result) c.requires c.cell_at.ensures
