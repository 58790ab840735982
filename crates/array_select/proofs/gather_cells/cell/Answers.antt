use Rattle.array_select.proofs.GatheredMany.{cell_reads}
use Rattle.array_select.proofs.gather_cells.cell.Goals as goal

pub returns-clause-number : goal.returns-clause-number
returns-clause-number g c valid = cell_reads g.row.WIDTH c.args.place c.args.source.now
