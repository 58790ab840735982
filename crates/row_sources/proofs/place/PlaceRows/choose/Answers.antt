use Rattle.std.proofs.Common.{◌∙◌}
use Rattle.row_sources.specs.Picking.{pick_of}
use Rattle.row_sources.proofs.Choosing.{same_chosen}
use Rattle.row_sources.proofs.place.PlaceRows.choose.Goals as goal

pub returns-clause-choice : goal.returns-clause-choice
returns-clause-choice c = λ made part is.
    c.in_ok-select.ensures ∙ same_chosen c.args.self.now.table c.args.self.now.cursor (pick_of c.args.picker.now) c.peek-part.result part c.peek-part.ensures.next is
