use Rattle.std.proofs.Common.{[], ℕ, List, ap, append-nil, subst, sym}
use Rattle.row_stream.specs.Writing.{WriterAt, SoFar}
use Rattle.row_stream.proofs.SoFar.{broken_here}
use Rattle.row_stream.proofs.writer.StreamWriter.break_off.Goals as goal

pub returns : goal.returns
returns g c schema rows start so =
    let so = subst (λ (waiting : List ℕ). SoFar schema rows start (g.W.Output.contents c.args.output.now) waiting) (sym (ap (λ (w : WriterAt). w.waiting) c.self.view_is)) so in
    broken_here schema rows rows [] start _ _ _ _ _ (sym (append-nil rows)) so c.break_off.ensures
