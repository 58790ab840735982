use Rattle.std.proofs.Common.{◌≡◌, ◌+◌, ◌-◌, ◌∙◌, ℕ, ap, take, drop, arith}
use Rattle.byteorder.specs.Endian.{little_from}
use Rattle.group_slots.proofs.ShortTexts.{word_cut}
use Rattle.group_slots.proofs.tags.short_text.Goals as goal

pub returns-then-begin-bytes : goal.returns-then-begin-bytes
returns-then-begin-bytes c =
    let bytes = c.args.bytes.now in
    let wide : c.args.begin + 8 - c.args.begin ≡ 8 = omega arith in
    c.lowest.ensures
    ∙ word_cut c.args.begin c.args.len bytes c.read_u64.result (λ k. omega (arith, c.type_inv.bytes k)) c.requires.short
    (c.read_u64.ensures ∙ ap (λ (n : ℕ). little_from 0 8 (take n (drop c.args.begin bytes))) wide)
