use Rattle.std.proofs.Common.{◌≡◌, ◌≤◌, ◌<◌, ◌+◌, ◌-◌, ◌^◌, List, All, length, map, get_or, sym, ap, ◌∙◌, subst, arith}
use Rattle.std.proofs.lemmas.List.{length-map}
use Rattle.arrow_types.specs.Answer.{copied_type}
use Rattle.arrow_types.specs.declared.data_type.DataType.{DataType}
use Rattle.arrow_types.specs.declared.data_type.DataType.TheVariants.{Number}
use Rattle.arrow_types.specs.declared.data_type.NumberType.TheVariants.{Integer}
use Rattle.arrow_types.specs.declared.data_type.IntegerType.TheVariants.{Int8}
use Rattle.scan_base.specs.declared.value.Value.{Value}
use Rattle.array_select.specs.declared.of_slots.SlotRef.{SlotRef}
use Rattle.array_select.specs.OfSlots.{slot_value, IsSlotOf}
use Rattle.arrays.specs.TypedLayouts.{IsOfType}
use Rattle.arrays.specs.WrittenSlots.{texts_joined}
use Rattle.grouping.specs.inside.Answering.{first_cell}
use Rattle.grouping.proofs.Answering.{type_there}
use Rattle.grouping.proofs.Finishing.{IsKeyAt, key_at, item_tallies, first_column, counted_column, summed_column, if_ok_three}
use Rattle.grouping.proofs.batches.GroupRows.column.Goals as goal
use Rattle.grouping.proofs.batches.GroupRows.column.Goals.{In-Key, After-as_slice}

-- the key that the item gives
key : (c : In-Key) → IsKeyAt c.args.self.now c.args.item c.in-Key.place
key c = key_at c.args.self.now c.args.item c.in-Key.place c.requires.can c.requires.there c.in-Key.is

-- the values of the slots are the cells of first rows
values : (c : After-as_slice) →
    map slot_value c.as_slice.result.now ≡ map (first_cell c.args.self.now.batches.now (get_or c.args.self.now.keys.now c.in-Key.place 0)) c.part.result.now
values c = ap (map slot_value) c.as_slice.ensures.value ∙ c.in_ok-slots-in-Key.ensures.values

pub column_of_slots-requires-clause-there : goal.column_of_slots-requires-clause-there
column_of_slots-requires-clause-there c =
    let types = c.args.self.now.types.now in
    let column = get_or c.args.self.now.keys.now c.in-Key.place 0 in
    let is = type_there types column (Number (Integer Int8)) (key (goal.at.column_of_slots-requires-clause-there c).In-Key).column in
    subst (λ (slots : List SlotRef). All (IsSlotOf (get_or types column (Number (Integer Int8)))) slots) (sym c.as_slice.ensures.value)
    (subst (λ (t : DataType). All (IsSlotOf t) c.in_ok-slots-in-Key.slots.items) (sym is) c.in_ok-slots-in-Key.ensures.there)

pub column_of_slots-requires-clause-short : goal.column_of_slots-requires-clause-short
column_of_slots-requires-clause-short c =
    let at = key (goal.at.column_of_slots-requires-clause-short c).In-Key in
    let answer = c.args.self.now in
    let many = c.args.to - c.args.from in
    let inside : c.args.from + many ≤ length answer.firsts.now = omega (arith, at.long, c.requires.within, c.requires.ordered) in
    let cell = first_cell answer.batches.now (get_or answer.keys.now c.in-Key.place 0) in
    subst (λ (values : List Value). length (texts_joined values) < 2 ^ 31)
    (sym (values (goal.at.column_of_slots-requires-clause-short c).After-as_slice ∙ ap (map cell) c.part.ensures ∙ at.cells c.args.from many inside)) c.requires.named

pub returns-in_ok-slots-in-Key : goal.returns-in_ok-slots-in-Key
returns-in_ok-slots-in-Key c =
    let types = c.args.self.now.types.now in
    let column = get_or c.args.self.now.keys.now c.in-Key.place 0 in
    let cell = first_cell c.args.self.now.batches.now column in
    let at = key (goal.at.returns-in_ok-slots-in-Key c).In-Key in
    let cells = values (goal.at.returns-in_ok-slots-in-Key c).After-as_slice in
    let is = type_there types column (Number (Integer Int8)) at.column in
    let long : length c.as_slice.result.now ≡ length c.part.result.now =
    sym (length-map c.as_slice.result.now slot_value) ∙ ap (λ (values : List Value). length values) cells ∙ length-map c.part.result.now cell in
    if_ok_three _ _ _ _
    (λ made values typed many. first_column c.args.self.now c.args.item c.in-Key.place c.args.from c.args.to c.part.result.now made at c.in-Key.is
    c.requires.ordered c.requires.within c.part.ensures (values ∙ cells) (subst (λ (t : DataType). IsOfType (copied_type t) made.layout) is typed) (many ∙ long))
    c.column_of_slots.result c.column_of_slots.ensures.values c.column_of_slots.ensures.typed c.column_of_slots.ensures.long

pub count_column-requires-clause-within : goal.count_column-requires-clause-within
count_column-requires-clause-within c =
    let are = item_tallies c.args.self.now c.args.item c.index-self-item.result c.requires.can c.requires.there in
    omega (arith, are.long, c.requires.within)

pub count_column-requires-clause-few : goal.count_column-requires-clause-few
count_column-requires-clause-few c = (item_tallies c.args.self.now c.args.item c.index-self-item.result c.requires.can c.requires.there).few

pub sum_column-requires-clause-within : goal.sum_column-requires-clause-within
sum_column-requires-clause-within c =
    let are = item_tallies c.args.self.now c.args.item c.index-self-item-in-Sum.result c.requires.can c.requires.there in
    omega (arith, are.long, c.requires.within)

pub returns-in-CountRows : goal.returns-in-CountRows
returns-in-CountRows c =
    let are = item_tallies c.args.self.now c.args.item c.index-self-item.result c.requires.can c.requires.there in
    if_ok_three _ _ _ _
    (λ made values typed long. counted_column c.args.self.now c.args.item c.args.from c.args.to _ made are c.in-CountRows.is
    c.requires.ordered c.requires.within values typed long)
    c.count_column.result c.count_column.ensures.values c.count_column.ensures.typed c.count_column.ensures.long

pub returns-in-Sum : goal.returns-in-Sum
returns-in-Sum c =
    let are = item_tallies c.args.self.now c.args.item c.index-self-item-in-Sum.result c.requires.can c.requires.there in
    if_ok_three _ _ _ _
    (λ made values typed long. summed_column c.args.self.now c.args.item c.args.from c.args.to c.in-Sum.field-0 _ made are c.in-Sum.is
    c.requires.ordered c.requires.within values typed long)
    c.sum_column.result c.sum_column.ensures.values c.sum_column.ensures.typed c.sum_column.ensures.long
