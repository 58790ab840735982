use Rattle.std.proofs.Common.{map}
use Rattle.std.proofs.lemmas.List.{length-map}
use Rattle.array_select.proofs.FilledSlots.{texts_fill}
use Rattle.array_select.proofs.text_filling.fill_texts.Goals as goal

pub returns : goal.returns
returns g c =
    texts_fill c.in_ok-from_vec.field-0 c.in_ok-from_vec-2.field-0 _ _ (map g.S.Source.held c.args.slots.now) _ c.in_ok-from_vec.ensures.ok c.in_ok-from_vec-2.ensures.ok
    c.in_ok-offsets.ensures.offsets c.in_ok-bytes.ensures (length-map c.args.slots.now g.S.Source.held) c.requires.short c.requires.typed
