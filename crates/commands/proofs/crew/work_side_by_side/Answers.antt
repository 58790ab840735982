use Rattle.commands.proofs.crew.work_side_by_side.Goals as goal

pub returns : goal.returns
returns g c i d few =
    let at = (c.for_each_mut.ensures i d few).1 in
    rw (at.argument_is, at.left) at at.call
