use Rattle.std.specs.Prelude.{IfSome, Option}
use Rattle.std.proofs.lemmas.List.Elements.{All-set}
use Rattle.coded_keys.specs.declared.numbers.SeenNumber.{SeenNumber}
use Rattle.coded_keys.specs.Numbers.{IsSeenNumber}
use Rattle.coded_keys.proofs.numbers.SeenNumbers.keep.Goals as goal

pub returns-then-place-len : goal.returns-then-place-len
returns-then-place-len c numbers is kept =
    let at = c.args.at.now in
    All-set (λ (place : Option SeenNumber). IfSome place (IsSeenNumber numbers at.batch.now at.columns.now)) _ _ _ (λ _. is)
    (c.make_room.ensures numbers at.batch.now at.columns.now kept)
