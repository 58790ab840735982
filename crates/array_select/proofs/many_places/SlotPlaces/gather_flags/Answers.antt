use Rattle.std.proofs.Common.{length, sym, refl}
use Rattle.std.proofs.lemmas.List.{length-map}
use Rattle.arrow_types.specs.declared.data_type.DataType.TheVariants as type
use Rattle.array_select.specs.GatherMany.{value_in}
use Rattle.array_select.specs.inside.GatheredMany.{columns_of, values_at}
use Rattle.array_select.proofs.GatheredMany.{flags_filled, values_typed}
use Rattle.array_select.proofs.many_places.SlotPlaces.gather_flags.Goals as goal

pub returns : goal.returns
returns c =
    let slots = c.args.self.now in
    flags_filled c.in_ok-pack_flags.field-0 (values_at slots) (length slots.places.now) c.in_ok-pack_flags.ensures (sym (length-map slots.places.now (value_in (columns_of slots))))
    (values_typed type.Bool (columns_of slots) slots.places.now (length slots.places.now) c.requires.typed c.requires.stand c.requires.there refl)
