use Rattle.std.proofs.Common.{ℕ, Bool, List, Option, map, ap, ◌∙◌}
use Rattle.std.specs.List.{range_with_len}
use Rattle.arrow_types.specs.declared.data_type.IntegerType.{IntegerType}
use Rattle.arrays.specs.Validity.{is_valid}
use Rattle.kernels.specs.Codes.{code_at, is_among}
use Rattle.kernels.specs.Items.{AreCodesOf}
use Rattle.kernels.specs.Ranges.{where_known}
use Rattle.kernels.proofs.AmongCodes.{slots_among}
use Rattle.kernels.proofs.membership.integers_among.Goals as goal

pub returns-in_ok-mask-in-Some : goal.returns-in_ok-mask-in-Some
returns-in_ok-mask-in-Some c cell =
    let cells = c.args.cells.now in
    let numbers = c.packed_integers.result in
    let is = c.packed_integers.ensures in
    let codes : List ℕ = c.in-Some.codes.items in
    let places = range_with_len c.args.first c.args.len in
    let are : AreCodesOf cells.integer c.args.items.now codes = rw (c.integer_type.ensures, c.in-Some.is) at c.in_ok-codes.ensures in
    c.in_ok-mask-in-Some.ensures
    ∙ ap (λ (v : Option (List Bool)). map (λ (place : ℕ). where_known (is_valid v place) (is_among c.as_slice.result.now (code_at numbers.integer numbers.values.now place))) places) is.validity
    ∙ ap (λ (integer : IntegerType). map (λ (place : ℕ). where_known (is_valid cells.validity place) (is_among c.as_slice.result.now (code_at integer numbers.values.now place))) places) is.integer
    ∙ ap (λ (values : List ℕ). map (λ (place : ℕ). where_known (is_valid cells.validity place) (is_among c.as_slice.result.now (code_at cells.integer values place))) places) is.values
    ∙ ap (λ (l : List ℕ). map (λ (place : ℕ). where_known (is_valid cells.validity place) (is_among l (code_at cells.integer cells.values place))) places) c.as_slice.ensures.value
    ∙ slots_among cells c.args.items.now codes cell places is.stands.bytes are
