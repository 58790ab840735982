use Rattle.std.proofs.Common.{◌≡◌, [], refl, ◌∙◌}
use Rattle.version_cell.proofs.Counts.{none_signed}
use Rattle.version_cell.proofs.shared_putter.SharedPutter.new.Goals as goal

pub invariant_of-new : goal.invariant_of-new
invariant_of-new g c =
    let none : c.putter.inside.publisher ≡ [] = none_signed c.putter.inside.publisher (c.putter.view_is ∙ c.requires) in
    record { counted = rw (none, c.putter.invariant.0) refl; each = rw none c.putter.invariant.1 }
