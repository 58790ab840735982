-- Turns that have an end.
use Rattle.std.proofs.Common.{◌≡◌, Bool, true, false, sym, ◌∙◌}
use Rattle.std.specs.Prelude.{◌≢◌}
use Rattle.row_sources.specs.declared.turn.Patience.{Patience}
use Rattle.row_sources.specs.declared.turn.Patience.TheVariants.{Endless}

-- endless patience is never over
pub has_end : (before now : Patience) (over : Bool) → (before ≡ Endless → now ≡ Endless) → (now ≡ Endless → over ≡ false) → over ≡ true → before ≢ Endless
has_end before now over stays never is endless =
    let no : true ≡ false = sym is ∙ never (stays endless) in
    cc
