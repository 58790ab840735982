use Rattle.std.proofs.Common.{◌≡◌, ◌<◌, ◌+◌, ◌-◌, ◌++◌, ℕ, List, length, drop, get_or, sym, ap, ◌∙◌, arith}
use Rattle.std.specs.Int.{to_le_bytes, w32}
use Rattle.scan_base.specs.declared.value.Value.{Value}
use Rattle.arrays.specs.Texts.{text_at}
use Rattle.arrays.specs.WrittenSlots.{offsets_from}
use Rattle.array_select.specs.inside.GatheredSlots.{texts_at}
use Rattle.arrays.proofs.Offsets.{out_more}
use Rattle.array_select.proofs.GatheredTexts.{texts_ahead, joined_ahead, text_long}
use Rattle.array_select.proofs.gather_texts.gather_offsets.Goals as goal

-- how many bytes the next text has
next_long : (c : goal.After-bounds-begin) → c.bounds-begin.result.1 - c.bounds-begin.result.0 ≡ length (text_at c.args.cells.now (c.args.first + get_or c.args.places.now c.loop-place.place-index 0))
next_long c =
    let at = c.args.first + get_or c.args.places.now c.loop-place.place-index 0 in
    let within : at < c.args.cells.now.len = c.requires.among.each c.loop-place.place-index c.loop-place-test.true in
    omega (arith, c.bounds-begin.ensures.begin, c.bounds-begin.ensures.end, text_long c.args.cells.now at c.len-count.ensures.stands within)

pub overflow_add-offset : goal.overflow_add-offset
overflow_add-offset c =
    let more = joined_ahead c.args.cells.now c.args.first c.args.places.now c.loop-place.place-index c.loop-place-test.true in
    record { fits = omega (arith, next_long c, more, c.loop-place.invariant.total, c.requires.short) }

pub loop-place-preserved : goal.loop-place-preserved
loop-place-preserved c =
    let cells = c.args.cells.now in
    let first = c.args.first in
    let places = c.args.places.now in
    let i = c.loop-place.place-index in
    let at = c.loop-place.offset in
    let made = c.loop-place.offsets.items in
    let left = texts_at cells first (drop (i + 1) places) in
    let long = next_long c in
    let more = joined_ahead cells first places i c.loop-place-test.true in
    let ahead = texts_ahead cells first places i c.loop-place-test.true in
    record {
      total = omega (arith, long, more, c.loop-place.invariant.total);
      out = out_more made c.extend_from_slice.new.self.items c.to_le_bytes.result (offsets_from (at + (c.bounds-begin.result.1 - c.bounds-begin.result.0)) left) _ c.in_ok-extend_from_slice.ensures.items
          (ap (λ (xs : List ℕ). made ++ (xs ++ offsets_from (at + (c.bounds-begin.result.1 - c.bounds-begin.result.0)) left)) c.to_le_bytes.ensures
          ∙ ap (λ (n : ℕ). made ++ (to_le_bytes w32 at ++ offsets_from (at + n) left)) long
          ∙ ap (λ (xs : List Value). made ++ offsets_from at xs) (sym ahead) ∙ c.loop-place.invariant.out);
    }
