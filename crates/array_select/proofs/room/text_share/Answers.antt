use Rattle.std.proofs.Common.{ap, ◌∙◌}
use Rattle.std.specs.List.{sum_by}
use Rattle.std.proofs.Math.Nat.{le-max_left}
use Rattle.std.proofs.lemmas.List.{take_all}
use Rattle.array_select.specs.Room.{allowed}
use Rattle.array_select.proofs.Shares.{shared_out}
use Rattle.array_select.proofs.room.text_share.Goals as goal

pub returns-clause-all : goal.returns-clause-all
returns-clause-all c =
    let i = c.loop-data_type.data_type-index in
    shared_out c.args.types.now c.loop-data_type.with_texts c.max.result
    (c.loop-data_type.invariant.0 ∙ ap (sum_by (allowed 1)) (take_all i c.args.types.now c.loop-data_type-test.false))
    (rw c.max.ensures (le-max_left c.loop-data_type.with_texts 1))
