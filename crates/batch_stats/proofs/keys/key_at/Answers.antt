use Rattle.std.proofs.Common.{◌-◌, ◌*◌, ◌/◌, ◌^◌, ℕ, min, ap, ◌∙◌, arith}
use Rattle.batch_stats.proofs.TextKeys.{front_room, key_is}
use Rattle.batch_stats.proofs.keys.key_at.Goals as goal

pub overflow_add-result : goal.overflow_add-result
overflow_add-result c =
    let room = front_room c.word_at.result (min c.min-count.result 7) c.word_at.type_inv (omega arith) in
    record { fits = omega (arith, room, c.first_bytes.ensures, c.min-count.ensures) }

pub returns : goal.returns
returns c =
    key_is c.args.begin c.args.end c.first_bytes.result c.min-count.result c.args.bytes.now (λ k. omega (arith, c.type_inv.bytes k)) c.requires.ordered c.requires.within c.min-count.ensures
    (c.first_bytes.ensures ∙ ap (λ (w : ℕ). 256 * (w / 256 ^ (8 - min c.min-count.result 7) * 256 ^ (7 - min c.min-count.result 7))) c.word_at.ensures)
