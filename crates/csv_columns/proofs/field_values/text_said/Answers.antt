use Rattle.std.proofs.Common.{ap, sym, ◌∙◌}
use Rattle.std.specs.Str.{is_utf8}
use Rattle.std.proofs.lemmas.Str.{is_utf8-from_IsUtf8}
use Rattle.csv_columns.proofs.field_values.text_said.Goals as goal

pub returns-clause-utf8 : goal.returns-clause-utf8
returns-clause-utf8 c = ap is_utf8 (sym c.as_bytes-bytes.ensures.value) ∙ is_utf8-from_IsUtf8 c.as_bytes-bytes.result.now c.as_bytes-bytes.ensures.utf8

pub returns-clause-typed : goal.returns-clause-typed
returns-clause-typed c = ap is_utf8 (sym c.as_bytes-bytes.ensures.value) ∙ is_utf8-from_IsUtf8 c.as_bytes-bytes.result.now c.as_bytes-bytes.ensures.utf8
