-- The first bytes of texts.
use Rattle.std.proofs.Common.{◌≡◌, ◌≤◌, ◌<◌, ℕ, zero, suc, Bool, true, false, List, [], ◌∷◌, length, take, Option, Some, refl, ap, ◌∙◌, arith}
use Rattle.scan_base.specs.declared.value.Value.{Value}
use Rattle.scan_base.specs.declared.value.Value.TheVariants.{Text}
use Rattle.batch_stats.specs.declared.beginnings.Beginnings.{Beginnings}
use Rattle.batch_stats.specs.Beginnings.{AreBeginnings, AreFirst}
use Rattle.batch_stats.specs.Stats.{StatsAt}

-- what is cut at a place are the first bytes; nothing follows only where that is the end
pub first_cut : (end : ℕ) (text : List ℕ) (is_whole : Bool) → end ≤ length text → (is_whole ≡ true → end ≡ length text) → (is_whole ≡ false → end < length text) →
    AreFirst (take end text) is_whole text
first_cut zero [] true low all more = refl
first_cut zero [] false low all more = absurd (omega (arith, more refl))
first_cut zero (b ∷ text) true low all more = absurd (omega (arith, all refl))
first_cut zero (b ∷ text) false low all more = (b, text, refl)
first_cut (suc n) [] is_whole low all more = absurd (omega (arith, low))
first_cut (suc n) (b ∷ text) true low all more =
    ap (λ (rest : List ℕ). b ∷ rest) (first_cut n text true (omega (arith, low)) (λ e. omega (arith, all e)) (λ e. cc))
first_cut (suc n) (b ∷ text) false low all more =
    let tail = first_cut n text false (omega (arith, low)) (λ e. cc) (λ e. omega (arith, more e)) in
    (tail.0, tail.1, ap (λ (rest : List ℕ). b ∷ rest) tail.2)

-- statistics are known by their two parts
same_stats : (stats : StatsAt) (ends : Option (Value × Value)) (nulls : ℕ) → stats.ends ≡ ends → stats.nulls ≡ nulls → stats ≡ record { ends = ends; nulls = nulls }
same_stats stats ends nulls e f =
    let with_ends : Option (Value × Value) → StatsAt = λ some. record { ends = some; nulls = stats.nulls } in
    let with_nulls : ℕ → StatsAt = λ count. record { ends = ends; nulls = count } in
    ap with_ends e ∙ ap with_nulls f

-- of whole texts they are all known
first_whole : (first : List ℕ) (is_whole : Bool) (text : List ℕ) → is_whole ≡ true → AreFirst first is_whole text → text ≡ first
first_whole first true text e is = is
first_whole first false text e is = absurd (let no : ⊥ = cc in no)

pub whole_stats : (known : Beginnings) (stats : StatsAt) → known.least.is_whole ≡ true → known.greatest.is_whole ≡ true → AreBeginnings known stats →
    stats ≡ record { ends = Some (Text known.least.first.now, Text known.greatest.first.now); nulls = known.nulls }
whole_stats known stats low high are =
    let least = first_whole known.least.first.now known.least.is_whole are.least low are.least_first in
    let greatest = first_whole known.greatest.first.now known.greatest.is_whole are.greatest high are.greatest_first in
    same_stats stats (Some (Text known.least.first.now, Text known.greatest.first.now)) known.nulls
    (are.ends ∙ ap (λ text. Some (Text text, Text are.greatest)) least ∙ ap (λ text. Some (Text known.least.first.now, Text text)) greatest)
    are.nulls
