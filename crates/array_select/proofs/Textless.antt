-- Values that are no texts.
use Rattle.std.proofs.Common.{◌≡◌, List, [], ◌∷◌, map, Option, Some, None, refl}
use Rattle.scan_base.specs.declared.value.Value.{Value}
use Rattle.arrays.specs.WrittenSlots.{text_bytes, texts_joined}
use Rattle.array_select.specs.ColumnValues.{value_or_null}

-- they have no bytes
pub no_texts : {T : Type 0} (value : T → Value) (values : List (Option T)) → ((x : T) → text_bytes (value x) ≡ []) → texts_joined (map (value_or_null value) values) ≡ []
no_texts value [] none = refl
no_texts value (None ∷ values) none = no_texts value values none
no_texts value (Some x ∷ values) none = rw (none x) (no_texts value values none)
