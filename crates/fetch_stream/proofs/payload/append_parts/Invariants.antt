use Rattle.std.proofs.Common.{◌≡◌, ◌++◌, drop}
use Rattle.std.specs.List.{flat_map}
use Rattle.fetch_stream.proofs.payload.append_parts.Given as goal

abbrev pub invariant-loop-part : goal.invariant-loop-part
invariant-loop-part l = l.bytes.items ++ flat_map (λ part. part) (drop l.part-index l.parts) ≡ l.fn.bytes.items ++ flat_map (λ part. part) l.parts
