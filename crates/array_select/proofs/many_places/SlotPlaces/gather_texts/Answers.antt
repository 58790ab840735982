use Rattle.std.proofs.Common.{length, refl}
use Rattle.std.proofs.lemmas.List.{length-map}
use Rattle.arrow_types.specs.declared.data_type.DataType.TheVariants as type
use Rattle.array_select.specs.GatherMany.{value_in}
use Rattle.array_select.specs.inside.GatheredMany.{columns_of, values_at}
use Rattle.array_select.proofs.FilledSlots.{texts_fill}
use Rattle.array_select.proofs.GatheredMany.{values_typed}
use Rattle.array_select.proofs.many_places.SlotPlaces.gather_texts.Goals as goal

pub returns : goal.returns
returns c =
    let slots = c.args.self.now in
    texts_fill c.in_ok-from_vec.field-0 c.in_ok-from_vec-2.field-0 c.in_ok-offsets.offsets.items c.in_ok-bytes.bytes.items (values_at slots) (length slots.places.now)
    c.in_ok-from_vec.ensures.ok c.in_ok-from_vec-2.ensures.ok c.in_ok-offsets.ensures.offsets c.in_ok-bytes.ensures
    (length-map slots.places.now (value_in (columns_of slots))) c.requires.short
    (values_typed type.Utf8 (columns_of slots) slots.places.now (length slots.places.now) c.requires.typed c.requires.stand c.requires.there refl)
