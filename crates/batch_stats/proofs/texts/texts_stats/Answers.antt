use Rattle.std.proofs.Common.{◌≡◌, ◌≤◌, ℕ, ◌+◌, ◌-◌, Bool, true, List, Option, Some, refl, sym, ap, ◌∙◌, arith}
use Rattle.scan_base.specs.declared.value.Value.{Value}
use Rattle.scan_base.specs.declared.value.Value.TheVariants.{Text}
use Rattle.arrays.specs.Column.{ColumnAt, values_of}
use Rattle.arrays.specs.Texts.{text_at, texts_slot}
use Rattle.arrays.specs.Validity.{is_valid, where_valid}
use Rattle.arrays.specs.declared.layout.Layout.TheVariants.{Texts}
use Rattle.batch_stats.specs.Stats.{ends_of}
use Rattle.batch_stats.specs.inside.Slots.{ends_with}
use Rattle.batch_stats.specs.inside.TextSlots.{AreEndsAt, IsKeyed, IsTextAt}
use Rattle.batch_stats.specs.declared.texts.SlotText.{SlotText}
use Rattle.batch_stats.proofs.Passes.{from_first, nulls_are, where_some}
use Rattle.batch_stats.proofs.TextPlaces.{keyed_there, place_below, text_held}
use Rattle.batch_stats.proofs.texts.texts_stats.Goals as goal

pub returns-in_default : goal.returns-in_default
returns-in_default c =
    let cells = c.args.cells.now in
    let column : ColumnAt = record { layout = Texts cells; first = c.args.first; len = c.args.len } in
    let value : ℕ → Value = λ p. Text (text_at cells p) in
    nulls_are column c.validity.result.now value (λ place. ap (λ (v : Option (List Bool)). where_valid v value place) (sym c.validity.ensures)) c.in_default.ensures.none

pub returns : goal.returns
returns c =
    let cells = c.args.cells.now in
    let first = c.args.first in
    let column : ColumnAt = record { layout = Texts cells; first = first; len = c.args.len } in
    let value : ℕ → Value = λ p. Text (text_at cells p) in
    let slot : ℕ → Value = texts_slot cells in
    let start = c.in-Some.start in
    let to : ℕ = first + c.args.len in
    let found = c.in-Some.ensures.some in
    let range = c.with_slots-range.result in
    let text : SlotText = record { place = start; text = c.get.result; key = c.slot_key.result } in
    let valid : is_valid cells.validity start ≡ true = sym (ap (λ v. is_valid v start) c.validity.ensures) ∙ found.valid in
    let one : IsTextAt slot first to text = record { low = found.low; high = found.high; is = where_some cells.validity value start valid ∙ ap Text (sym c.get.ensures) } in
    let low : first ≤ start + 1 = let at : first ≤ start = found.low in omega (arith, at) in
    let both : AreEndsAt slot first to range = c.with_slots-range.ensures.places first low (one, one) in
    let rest : Some (Text range.least.text.now, Text range.greatest.text.now) ≡ ends_of (values_of column) =
    c.with_slots-range.ensures.ends
    ∙ ap (λ (t : List ℕ). ends_with (Some (Text t, Text t)) slot (start + 1) to) c.get.ensures
    ∙ from_first column cells.validity c.validity.result.now value start c.validity.ensures (λ place. refl) found in
    record {
      ends =
          ap (λ (v : Value). Some (v, slot (first + (range.greatest.place - first)))) (text_held slot first to range.least both.0)
          ∙ ap (λ (v : Value). Some (Text range.least.text.now, v)) (text_held slot first to range.greatest both.1)
          ∙ rest;
      slots = (place_below slot first c.args.len range.least both.0, place_below slot first c.args.len range.greatest both.1);
    }

pub with_slots-range-requires-clause-keys : goal.with_slots-range-requires-clause-keys
with_slots-range-requires-clause-keys c =
    let cells = c.args.cells.now in
    let start = c.in-Some.start in
    let text : SlotText = record { place = start; text = c.get.result; key = c.slot_key.result } in
    let keyed : IsKeyed text = keyed_there cells start c.slot_key.result c.offsets.result.now c.bytes.result.now c.offsets.ensures c.bytes.ensures
    text refl c.get.ensures c.slot_key.ensures.bytes c.slot_key.ensures.key in
    (keyed, keyed)
