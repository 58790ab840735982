use Rattle.std.proofs.Common.{◌*◌, ◌≤◌, ◌∙◌, length, sym, refl}
use Rattle.std.proofs.lemmas.Bool.{leb-true}
use Rattle.arrays.specs.Number.{byte_width}
use Rattle.arrays.proofs.slots.Slots.integers.Goals as goal

pub invariant_of-result : goal.invariant_of-result
invariant_of-result c =
    let room : byte_width c.args.integer * c.args.len ≤ length c.as_slice.result.now =
    leb-true (byte_width c.args.integer * c.args.len) (length c.as_slice.result.now) (sym c.has_elements.ensures.room ∙ c.if-not-has_elements.false) in
    record {
      stand = record {
        validity = c.in_ok-validity.ensures.long;
        values = rw c.as_slice.ensures at room;
        bytes = rw c.as_slice.ensures at c.has_elements.ensures.bytes;
      };
      count = refl;
    }
