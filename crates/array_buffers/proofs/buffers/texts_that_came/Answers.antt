use Rattle.std.proofs.Common.{◌≡◌, ◌∙◌, ◌+◌, ◌-◌, ℕ, ap, arith}
use Rattle.std.specs.List.{flat_map, range_with_len}
use Rattle.arrays.specs.Texts.{text_at}
use Rattle.array_buffers.proofs.AsCame.{came_texts}
use Rattle.array_buffers.proofs.buffers.texts_that_came.Goals as goal

pub returns-in_ok-data_between-in-Some : goal.returns-in_ok-data_between-in-Some
returns-in_ok-data_between-in-Some c =
    let column = c.args.column.now in
    let texts = c.in-Some.texts in
    let count : c.first-first.result + c.len.result - c.first-first.result ≡ column.len = omega (arith, c.len.ensures.count) in
    c.in_ok-data_between-in-Some.ensures
    ∙ ap (λ (n : ℕ). flat_map (text_at texts) (range_with_len c.first-first.result n)) count
    ∙ ap (λ (n : ℕ). flat_map (text_at texts) (range_with_len n column.len)) c.first-first.ensures
    ∙ came_texts column texts c.in-Some.ensures.0 c.in-Some.ensures.1
