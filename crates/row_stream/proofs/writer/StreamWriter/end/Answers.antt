use Rattle.std.proofs.Common.{ℕ, List, ap, subst, sym}
use Rattle.row_stream.specs.Writing.{WriterAt, SoFar}
use Rattle.row_stream.proofs.Causes.{counts}
use Rattle.row_stream.proofs.SoFar.{ended_by}
use Rattle.row_stream.proofs.writer.StreamWriter.end.Goals as goal

pub returns-clause-bytes : goal.returns-clause-bytes
returns-clause-bytes g c schema rows start so =
    let so = subst (λ (waiting : List ℕ). SoFar schema rows start (g.W.Output.contents c.args.output.now) waiting) (sym (ap (λ (w : WriterAt). w.waiting) c.self.view_is)) so in
    ended_by c.write_last.result schema rows start _ _ _ so c.write_last.ensures.bytes

pub returns-clause-counted : goal.returns-clause-counted
returns-clause-counted g c = counts c.write_last.result _ _ c.write_last.ensures.counted c.write_last.ensures.fault
