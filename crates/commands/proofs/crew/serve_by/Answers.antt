use Rattle.std.proofs.Common.{refl, rules}
use Rattle.commands.proofs.Crews.{new_rest, new_shown}
use Rattle.commands.proofs.crew.serve_by.Goals as goal

pub serve_seat-served-requires-clause-rests : goal.serve_seat-served-requires-clause-rests
serve_seat-served-requires-clause-rests g c =
    let found = c.unwrap-scanner.result in (
      new_rest g.C.CellName.book found.number,
      c.requires.stands _ (refl, refl),
      new_shown g.C.CellName.book c.args.worker.now.scanner found (search rules) c.requires.fresh,
    )
