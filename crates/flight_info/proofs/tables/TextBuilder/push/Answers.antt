use Rattle.std.proofs.Common.{◌≡◌, ◌++◌, ◌<◌, ◌^◌, ℕ, List, length, ap, ◌∙◌, arith}
use Rattle.std.proofs.lemmas.Str.{is_utf8-from_IsUtf8}
use Rattle.byteorder.specs.Endian.{little_bytes}
use Rattle.flight_info.proofs.Listed.{hold_more}
use Rattle.flight_info.proofs.tables.TextBuilder.push.Goals as goal

pub returns : goal.returns
returns c texts held =
    let old = c.args.self.now in
    let bytes = c.extend_from_slice.new.self.items in
    let longer : bytes ≡ old.bytes.items ++ c.args.text.now = c.in_ok-extend_from_slice.ensures.items ∙ ap (λ (text : List ℕ). old.bytes.items ++ text) c.as_bytes.ensures.value in
    let end : c.len-end.result ≡ length bytes = omega (arith, c.len-end.ensures, c.extend_from_slice.new.self.ok.0) in
    let further : c.extend_from_slice-2.new.self.items ≡ old.offsets.items ++ little_bytes 4 (length bytes) =
    c.in_ok-extend_from_slice-2.ensures.items ∙ ap (λ (last : List ℕ). old.offsets.items ++ last) (c.to_le_bytes.ensures ∙ ap (little_bytes 4) end) in
    let short : length bytes < 2 ^ 31 = omega (arith, end, c.if-end-gt-MOST_BYTES.false) in
    hold_more old.offsets.items old.bytes.items c.extend_from_slice-2.new.self.items bytes texts c.args.text.now held longer further short (is_utf8-from_IsUtf8 c.args.text.now c.utf8.text)
