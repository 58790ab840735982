use Rattle.std.proofs.Common.{◌≡◌, ◌<◌, ◌^◌, ◌/◌, ◌-◌, ℕ, None, length, ap, arith}
use Rattle.flight_info.specs.inside.ListedTables.{text_values, HoldTexts}
use Rattle.flight_info.proofs.Listed.{text_slots, read_same, never_refused}
use Rattle.flight_info.proofs.tables.TextBuilder.into_column.Goals as goal

pub unreachable-requires : goal.unreachable-requires
unreachable-requires c =
    let texts = c.requires.0 in
    let offsets = c.in_ok-offsets.offsets in
    let bytes = c.in_ok-bytes.bytes in
    let len = c.len.result / 4 - 1 in
    let held : HoldTexts offsets bytes texts = rw (c.in_ok-offsets.ensures.ok, c.in_ok-bytes.ensures.ok) c.requires.1 in
    let long : c.len.result ≡ length offsets = omega (arith, c.len.ensures, c.args.self.offsets.ok.0, ap length c.in_ok-offsets.ensures.ok) in
    let counted : len ≡ length offsets / 4 - 1 = ap (λ (n : ℕ). n / 4 - 1) long in
    let few : len < 2 ^ 64 = omega (arith, c.len.type_inv) in
    never_refused None offsets bytes len (text_values texts) c.in-Err.field-0 (text_slots offsets bytes texts len held counted few) c.in-Err.ensures.value

pub returns : goal.returns
returns c texts held =
    let offsets = c.in_ok-offsets.offsets in
    let bytes = c.in_ok-bytes.bytes in
    let len = c.len.result / 4 - 1 in
    let here : HoldTexts offsets bytes texts = rw (c.in_ok-offsets.ensures.ok, c.in_ok-bytes.ensures.ok) held in
    let long : c.len.result ≡ length offsets = omega (arith, c.len.ensures, c.args.self.offsets.ok.0, ap length c.in_ok-offsets.ensures.ok) in
    let counted : len ≡ length offsets / 4 - 1 = ap (λ (n : ℕ). n / 4 - 1) long in
    let few : len < 2 ^ 64 = omega (arith, c.len.type_inv) in
    rw (c.new-in-Ok.ensures, c.texts.ensures) (read_same None offsets bytes len (text_values texts) c.in-Ok.texts (text_slots offsets bytes texts len here counted few) c.in-Ok.ensures.value)
