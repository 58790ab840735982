-- What joins UTF-8 and its test.
use Rattle.std.proofs.lemmas.Str.{IsUtf8-from_is_utf8, is_utf8-from_IsUtf8}
use Rattle.scan_base.proofs.Texts.{is_utf8_false}

pub ruleset texts = (IsUtf8-from_is_utf8, is_utf8-from_IsUtf8, is_utf8_false)
