use Rattle.std.proofs.Common.{◌≡◌, ◌∙◌, ◌+◌, ◌*◌, ℕ, ap, sym, arith, slice_range}
use Rattle.std.proofs.lemmas.Bool.{eqb-true}
use Rattle.arrays.specs.Number.{element_at}
use Rattle.array_buffers.proofs.AsCame.{came_offsets, texts_within}
use Rattle.array_buffers.proofs.buffers.offsets_that_came.Goals as goal

pub begins_at_zero-requires : goal.begins_at_zero-requires
begins_at_zero-requires c =
    let within = texts_within c.args.column.now c.in-Some.texts c.in-Some.ensures.0 c.len.ensures.stands in
    omega (arith, within, c.first-first.ensures, c.len.ensures.count)

pub returns-in_ok-offsets_between-in-Some : goal.returns-in_ok-offsets_between-in-Some
returns-in_ok-offsets_between-in-Some c =
    let column = c.args.column.now in
    let texts = c.in-Some.texts in
    let first = c.first-first.ensures in
    let behind : c.first-first.result + c.len.result ≡ column.first + column.len = omega (arith, c.first-first.ensures, c.len.ensures.count) in
    let begins : element_at 4 texts.offsets column.first ≡ 0 = rw first at (eqb-true _ _ (sym c.begins_at_zero.ensures ∙ c.if-begins_at_zero.true)) in
    c.in_ok-offsets_between-in-Some.ensures.cut
    ∙ ap (λ (n : ℕ). slice_range texts.offsets (4 * n) (4 * (c.first-first.result + c.len.result + 1))) first
    ∙ ap (λ (n : ℕ). slice_range texts.offsets (4 * column.first) (4 * (n + 1))) behind
    ∙ came_offsets column texts c.in-Some.ensures.0 c.len.ensures.stands c.in-Some.ensures.1 c.offsets_between.ensures.bytes
    (omega (arith, c.if-first-behind.true, c.len.ensures.count)) begins (rw behind at c.offsets_between.ensures.room)
