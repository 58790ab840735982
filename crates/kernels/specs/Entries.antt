-- Inside: what is said of the entries of a dictionary.
use Rattle.std.specs.Prelude.{◌≡◌, ◌<◌, ℕ, ◌==◌, Bool, IsTrue, List, length, map, get_or}
use Rattle.std.specs.Prelude.{if◌then◌else◌}
use Rattle.scan_base.specs.declared.truth.Truth.{Truth}
use Rattle.scan_base.specs.declared.truth.Truth.TheVariants.{False, Unknown}
use Rattle.scan_base.specs.declared.value.Value.{Value}
use Rattle.scan_base.specs.Predicate.{Pred, names_only, truth_of}
use Rattle.scan_base.specs.Truth.{truth_from, truth_or}
use Rattle.kernels.specs.Codes.{is_among}

-- the truth of a predicate where each column has the same value
abbrev pub truth_at : Pred ℕ → Value → Truth
truth_at predicate value = truth_of (λ (column : ℕ). value) predicate

-- a predicate names no column but one
abbrev pub NamesAlone : ℕ → Pred ℕ → Type 0
NamesAlone number predicate = IsTrue (names_only (λ column. column == number) predicate)

-- what is said of each entry, by its index
abbrev pub truths_at : Pred ℕ → List Value → List Truth
truths_at predicate values = map (truth_at predicate) values

-- the entries of these indices are true, and all others are false
abbrev pub AreTrueAt : List Truth → List ℕ → Type 0
AreTrueAt truths indices = (index : ℕ) → index < length truths →
    get_or truths index Unknown ≡ truth_from (is_among indices index)

-- what is said where nothing is known
abbrev pub unless_known : Truth → Truth → Truth
unless_known otherwise Unknown = otherwise
unless_known otherwise truth = truth

-- the truth of a slot by that of its entry, and of one that is null by that of NULL
abbrev pub by_entry : List Truth → Truth → Bool → ℕ → Truth
by_entry truths of_null valid index = if valid then get_or truths index of_null else of_null

-- an index stands among others where its entry is true; it is false, where it does not
abbrev pub IsPushed : List ℕ → ℕ → Truth → List ℕ → Type 0
IsPushed olds index truth news = (other : ℕ) → truth_from (is_among news other)
    ≡ truth_or (truth_from (is_among olds other)) (if other == index then truth else False)
