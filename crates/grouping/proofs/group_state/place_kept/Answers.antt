use Rattle.std.proofs.lemmas.Result.{on_ok_weaker}
use Rattle.grouping.proofs.group_state.place_kept.Goals as goal

pub returns-then-chosen-ne1-clause-known : goal.returns-then-chosen-ne1-clause-known
returns-then-chosen-ne1-clause-known c = on_ok_weaker c.place_by_codes.result (λ stay. stay c.args.kept.now.known.items c.requires.known) c.place_by_codes.ensures.stay
