use Rattle.std.proofs.Common.{refl}
use Rattle.arrow_schema.proofs.Framed.{frame_is}
use Rattle.arrow_schema.proofs.writing.encapsulate.Goals as goal

pub returns-clause-items : goal.returns-clause-items
returns-clause-items c = frame_is c.args.header.now c.extend_from_slice-4.new.self.items (rw (c.in_ok-extend_from_slice-4.ensures.items, c.in_ok-extend_from_slice-3.ensures.items, c.in_ok-extend_from_slice-2.ensures.items, c.in_ok-extend_from_slice.ensures.items, c.in_ok-out.ensures.items, c.to_le_bytes.ensures) refl)
