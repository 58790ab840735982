use Rattle.std.proofs.Common.{◌≡◌, ◌≤◌, ℕ, ◌+◌, ◌&&◌, Bool, true, false, List, Option, Some, nat_le, inl, inr, refl, sym, ap, ◌∙◌, arith}
use Rattle.std.proofs.lemmas.Bool.{and_parts, cases_Bool, leb-true}
use Rattle.scan_base.specs.declared.value.Value.{Value}
use Rattle.scan_base.specs.declared.value.Value.TheVariants.{Text}
use Rattle.arrays.specs.Number.{AreBytes}
use Rattle.arrays.specs.Texts.{text_at, texts_slot}
use Rattle.arrays.specs.Validity.{is_valid}
use Rattle.batch_stats.specs.Stats.{with_value}
use Rattle.batch_stats.specs.inside.Slots.{ends_with}
use Rattle.batch_stats.specs.inside.TextKeys.{key_of}
use Rattle.batch_stats.specs.inside.TextSlots.{AreEndsAt, IsKeyed}
use Rattle.batch_stats.specs.declared.texts.SlotText.{SlotText}
use Rattle.batch_stats.proofs.Passes.{pass_kept, pass_null, pass_valid, where_null, where_some}
use Rattle.batch_stats.proofs.TextPlaces.{bytes_there, key_there, keyed_there}
use Rattle.batch_stats.proofs.texts.TextRange.with_slots.Goals.{then-not-has+then-is_valid, else-not-has, else-not-has-via-then-not-has+else-is_valid, else-not-has-via-else-not-has}
use Rattle.batch_stats.proofs.texts.TextRange.with_slots.Goals as goal

pub loop-place-preserved : goal.loop-place-preserved
loop-place-preserved c =
    let cells = c.args.cells.now in
    let value : ℕ → Value = λ at. Text (text_at cells at) in
    let slot : ℕ → Value = texts_slot cells in
    let place = c.loop-place.place in
    let from = c.args.from in
    let to = c.args.to in
    let range = c.loop-place.range in
    let before : Option (Value × Value) = Some (Text range.least.text.now, Text range.greatest.text.now) in
    let all : Option (Value × Value) = ends_with (Some (Text c.args.self.least.text.now, Text c.args.self.greatest.text.now)) slot from to in
    let low : from ≤ place = c.loop-place.invariant.low in
    let next_low : from ≤ place + 1 = omega (arith, low) in
    let so_far : ends_with before slot place to ≡ all = c.loop-place.invariant.ends in
    let places : (first : ℕ) → first ≤ from → AreEndsAt slot first to c.args.self → AreEndsAt slot first to range = c.loop-place.invariant.places in
    let text = text_at cells place in
    let octets : AreBytes text = bytes_there cells place c.slot_key-key.result c.offsets-offsets.result.now c.bytes-bytes.result.now c.offsets-offsets.ensures c.bytes-bytes.ensures c.slot_key-key.ensures.bytes in
    let key : c.slot_key-key.result ≡ key_of text = key_there cells place c.slot_key-key.result c.offsets-offsets.result.now c.bytes-bytes.result.now c.offsets-offsets.ensures c.bytes-bytes.ensures c.slot_key-key.ensures.key in
    elim c.if-not-has.branch [
      | then-not-has+then-is_valid w ↦
          let known : is_valid cells.validity place ≡ true = sym (w.is_valid.ensures ∙ ap (λ (v : Option (List Bool)). is_valid v place) w.validity.ensures) ∙ w.if-is_valid.true in
          let next = w.with-range.result in
          let after : Option (Value × Value) = Some (Text next.least.text.now, Text next.greatest.text.now) in
          let more : after ≡ with_value before (value place) = w.with-range.ensures.ends ∙ ap (λ (text : List ℕ). with_value before (Text text)) w.get.ensures in
          let step : ends_with after slot (place + 1) to ≡ all =
          ap (λ (e : Option (Value × Value)). ends_with e slot (place + 1) to) more
          ∙ sym (pass_valid before cells.validity value place to c.loop-place-test.true known) ∙ so_far in
          let moved : (first : ℕ) → first ≤ from → AreEndsAt slot first to c.args.self → AreEndsAt slot first to next = λ first high both.
          w.with-range.ensures.places slot first to (places first high both)
          (record {
            low = omega (arith, low, high);
            high = c.loop-place-test.true;
            is = where_some cells.validity value place known ∙ ap Text (sym w.get.ensures);
          }) in
          rw (w.range-is, w.kept-is) (record { keys = w.with-range.ensures.keys; kept = w.kept_keys-kept-then-is_valid.ensures.kept; count = w.kept_keys-kept-then-is_valid.ensures.count; low = next_low; ends = step; places = moved })
      | else-not-has w ↦ elim w.else-not-has.branch [
        | else-not-has-via-then-not-has+else-is_valid v ↦
            let null : is_valid cells.validity place ≡ false = sym (v.is_valid.ensures ∙ ap (λ (b : Option (List Bool)). is_valid b place) v.validity.ensures) ∙ v.if-is_valid.false in
            let step : ends_with before slot (place + 1) to ≡ all = sym (pass_null before cells.validity value place to c.loop-place-test.true null) ∙ so_far in
            rw (w.range-is, w.kept-is) (record { keys = c.loop-place.invariant.keys; kept = c.loop-place.invariant.kept; count = c.loop-place.invariant.count; low = next_low; ends = step; places = places })
        | else-not-has-via-else-not-has v ↦
            let has : nat_le c.loop-place.kept.low c.slot_key-key.result && nat_le c.slot_key-key.result c.loop-place.kept.high ≡ true = grind (arith, c.has.ensures, v.if-not-has.false) in
            let both = and_parts (nat_le c.loop-place.kept.low c.slot_key-key.result) (nat_le c.slot_key-key.result c.loop-place.kept.high) has in
            let from_low = leb-true c.loop-place.kept.low c.slot_key-key.result both.0 in
            let up_to_high = leb-true c.slot_key-key.result c.loop-place.kept.high both.1 in
            let stays : with_value before (Text text) ≡ before = c.loop-place.invariant.kept text octets (omega (arith, from_low, key)) (omega (arith, up_to_high, key)) in
            let same : with_value before (slot place) ≡ before = elim (cases_Bool (is_valid cells.validity place)) [
              | inl valid ↦ ap (with_value before) (where_some cells.validity value place valid) ∙ stays
              | inr null ↦ ap (with_value before) (where_null cells.validity value place null)
            ] in
            let step : ends_with before slot (place + 1) to ≡ all = sym (pass_kept before slot place to c.loop-place-test.true same) ∙ so_far in
            rw (w.range-is, w.kept-is) (record { keys = c.loop-place.invariant.keys; kept = c.loop-place.invariant.kept; count = c.loop-place.invariant.count; low = next_low; ends = step; places = places })
      ]
    ]

pub with-range-requires-clause-key : goal.with-range-requires-clause-key
with-range-requires-clause-key c =
    let cells = c.args.cells.now in
    let text : SlotText = record { place = c.loop-place.place; text = c.get.result; key = c.slot_key-key.result } in
    let keyed : IsKeyed text = keyed_there cells c.loop-place.place c.slot_key-key.result c.offsets-offsets.result.now c.bytes-bytes.result.now c.offsets-offsets.ensures c.bytes-bytes.ensures
    text refl c.get.ensures c.slot_key-key.ensures.bytes c.slot_key-key.ensures.key in
    keyed
