-- Texts that end with a mark, and texts that do not.
use Rattle.std.proofs.Common.{◌≡◌, ◌-◌, ℕ, true, List, ◌++◌, length, take, drop, sym, ap₂, ◌∙◌}
use Rattle.std.specs.Str.{bytes_eq}
use Rattle.std.proofs.lemmas.List.{take-append-drop}
use Rattle.std.proofs.lemmas.Slice.Eq.{bytes_eq-Decides}

-- what stands before the mark
pub with_mark : (text front mark : List ℕ) → bytes_eq (drop (length text - length mark) text) mark ≡ true → front ≡ take (length text - length mark) text → text ≡ front ++ mark
with_mark text front mark same is =
    sym (take-append-drop (length text - length mark) text) ∙ ap₂ (λ (a b : List ℕ). a ++ b) (sym is) ((bytes_eq-Decides (drop (length text - length mark) text) mark).0 same)
