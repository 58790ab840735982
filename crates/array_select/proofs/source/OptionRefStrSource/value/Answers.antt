use Rattle.std.proofs.Common.{ap, sym, ◌∙◌}
use Rattle.std.specs.Str.{is_utf8}
use Rattle.std.proofs.lemmas.Str.{is_utf8-from_IsUtf8}
use Rattle.array_select.proofs.source.OptionRefStrSource.value.Goals as goal

pub returns-in-Some-clause-typed : goal.returns-in-Some-clause-typed
returns-in-Some-clause-typed c data_type of =
    rw (of, c.in-Some.is) (ap is_utf8 (sym c.as_bytes-bytes.ensures.value) ∙ is_utf8-from_IsUtf8 c.as_bytes-bytes.result.now c.as_bytes-bytes.ensures.utf8)
