-- Columns that lie as values of some types.
use Rattle.std.proofs.Common.{◌≡◌, ℕ, zero, suc, List, [], ◌∷◌, ◌++◌, map, inl, inr, refl, ap, ◌∙◌}
use Rattle.std.specs.List.{AllZip}
use Rattle.arrow_types.specs.declared.data_type.DataType.{DataType}
use Rattle.arrow_types.specs.declared.data_type.DataType.TheVariants.{Dictionary}
use Rattle.arrow_types.specs.Answer.{copied_type, LiesAs}
use Rattle.typed_plan.specs.TypedPlans.{type_at}

copied_twice : (t : DataType) → copied_type (copied_type t) ≡ copied_type t
copied_twice (Dictionary encoding) = refl
copied_twice other = refl

-- what is copied lies as before
pub lies_copied : (t lies : DataType) → LiesAs t lies → LiesAs t (copied_type lies)
lies_copied t lies (inl same) = inr (ap copied_type same)
lies_copied t lies (inr same) = inr (ap copied_type same ∙ copied_twice t)

-- both are copied alike
pub alike : (t lies : DataType) → LiesAs t lies → copied_type lies ≡ copied_type t
alike t lies (inl same) = ap copied_type same
alike t lies (inr same) = ap copied_type same ∙ copied_twice t

-- each type lies as itself
pub lie_alone : (types : List DataType) → AllZip LiesAs types types
lie_alone [] = tt
lie_alone (t ∷ types) = (inl refl, lie_alone types)

pub lie_copied : (types lies : List DataType) → AllZip LiesAs types lies → AllZip LiesAs types (map copied_type lies)
lie_copied [] [] all = tt
lie_copied [] (one ∷ lies) all = absurd all
lie_copied (t ∷ types) [] all = absurd all
lie_copied (t ∷ types) (one ∷ lies) all = (lies_copied t one all.0, lie_copied types lies all.1)

pub all_alike : (types lies : List DataType) → AllZip LiesAs types lies → map copied_type lies ≡ map copied_type types
all_alike [] [] all = refl
all_alike [] (one ∷ lies) all = absurd all
all_alike (t ∷ types) [] all = absurd all
all_alike (t ∷ types) (one ∷ lies) all =
    ap (λ (copied : DataType). copied ∷ map copied_type lies) (alike t one all.0)
    ∙ ap (λ (more : List DataType). copied_type t ∷ more) (all_alike types lies all.1)

-- one list after another
pub lie_behind : (types lies others more : List DataType) → AllZip LiesAs types lies → AllZip LiesAs others more →
    AllZip LiesAs (types ++ others) (lies ++ more)
lie_behind [] [] others more all behind = behind
lie_behind [] (one ∷ lies) others more all behind = absurd all
lie_behind (t ∷ types) [] others more all behind = absurd all
lie_behind (t ∷ types) (one ∷ lies) others more all behind = (all.0, lie_behind types lies others more all.1 behind)

-- the types at a place
pub lies_at : (types lies : List DataType) (number : ℕ) → AllZip LiesAs types lies → LiesAs (type_at types number) (type_at lies number)
lies_at [] [] number all = inl refl
lies_at [] (one ∷ lies) number all = absurd all
lies_at (t ∷ types) [] number all = absurd all
lies_at (t ∷ types) (one ∷ lies) zero all = all.0
lies_at (t ∷ types) (one ∷ lies) (suc number) all = lies_at types lies number all.1

-- those at several places
pub lie_at : (types lies : List DataType) (numbers : List ℕ) → AllZip LiesAs types lies →
    AllZip LiesAs (map (type_at types) numbers) (map (type_at lies) numbers)
lie_at types lies [] all = tt
lie_at types lies (number ∷ numbers) all = (lies_at types lies number all, lie_at types lies numbers all)
