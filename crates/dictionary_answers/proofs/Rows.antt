-- Worked rows.
use Rattle.std.proofs.Common.{◌≡◌, List, [], ◌∷◌, Some, None, codes, refl}
use Rattle.scan_base.specs.declared.value.Value.{Value}
use Rattle.scan_base.specs.declared.value.Value.TheVariants.{Null, Text}
use Rattle.dictionary_answers.specs.Firsts.{firsts, bytes_in, AreLed}

-- ---- 'b', NULL, 'a', 'b'

abbrev four : List Value
four = Text (codes "b") ∷ Null ∷ Text (codes "a") ∷ Text (codes "b") ∷ []

texts_of_four : firsts four ≡ codes "b" ∷ codes "a" ∷ []
texts_of_four = refl

indices_of_four : AreLed (codes "b" ∷ codes "a" ∷ []) (Some 0 ∷ None ∷ Some 1 ∷ Some 0 ∷ []) four
indices_of_four = ((codes "b", refl, refl), (refl, ((codes "a", refl, refl), ((codes "b", refl, refl), tt))))

bytes_of_four : bytes_in (firsts four) ≡ 2
bytes_of_four = refl

-- ---- nulls alone

texts_of_nulls : firsts (Null ∷ Null ∷ []) ≡ []
texts_of_nulls = refl

indices_of_nulls : AreLed [] (None ∷ None ∷ []) (Null ∷ Null ∷ [])
indices_of_nulls = (refl, (refl, tt))

bytes_of_nulls : bytes_in (firsts (Null ∷ Null ∷ [])) ≡ 0
bytes_of_nulls = refl

-- ---- a dictionary that has 'x' twice, and the indices 0 and 1

texts_of_twice : firsts (Text (codes "x") ∷ Text (codes "x") ∷ []) ≡ codes "x" ∷ []
texts_of_twice = refl

indices_of_twice : AreLed (codes "x" ∷ []) (Some 0 ∷ Some 0 ∷ []) (Text (codes "x") ∷ Text (codes "x") ∷ [])
indices_of_twice = ((codes "x", refl, refl), ((codes "x", refl, refl), tt))
