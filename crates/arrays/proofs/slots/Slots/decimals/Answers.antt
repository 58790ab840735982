use Rattle.std.proofs.Common.{◌*◌, ◌≤◌, ◌∙◌, length, sym, refl}
use Rattle.std.proofs.lemmas.Bool.{leb-true}
use Rattle.arrays.proofs.slots.Slots.decimals.Goals as goal

pub invariant_of-result : goal.invariant_of-result
invariant_of-result c =
    let room : 16 * c.args.len ≤ length c.as_slice.result.now =
    leb-true (16 * c.args.len) (length c.as_slice.result.now) (sym c.has_decimals.ensures.room ∙ c.if-not-has_decimals.false) in
    record {
      stand = record {
        validity = c.in_ok-validity.ensures.long;
        values = rw c.as_slice.ensures at room;
        bytes = rw c.as_slice.ensures at c.has_decimals.ensures.bytes;
      };
      count = refl;
    }
