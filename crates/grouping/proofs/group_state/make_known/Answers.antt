use Rattle.std.proofs.lemmas.Result.{on_ok_weaker}
use Rattle.grouping.proofs.Knowing.{nothing_known}
use Rattle.grouping.proofs.group_state.make_known.Goals as goal

pub returns-then-len-wanted : goal.returns-then-len-wanted
returns-then-len-wanted c =
    on_ok_weaker c.know_nothing.result
    (λ nothings meaning found known. nothing_known meaning found c.known_count-wanted.result c.know_nothing.new.known.items nothings)
    c.know_nothing.ensures
