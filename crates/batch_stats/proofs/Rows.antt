-- Worked rows: the definitions, tried on values that were worked out by hand.
use Rattle.std.proofs.Common.{◌≡◌, pos, negsuc, true, false, [], ◌∷◌, None, Some, refl, codes}
use Rattle.scan_base.specs.declared.value.Value.TheVariants.{Null, Bool as Flag, Int, Text}
use Rattle.batch_stats.specs.Stats.{ends_of, has_nulls, stats_of}

-- a null is no end
numbers : ends_of (Int (pos 5) ∷ Null ∷ Int (negsuc 2) ∷ Int (pos 3) ∷ []) ≡ Some (Int (negsuc 2), Int (pos 5))
numbers = refl

-- texts by their bytes, and not by their length
texts : ends_of (Text (codes "bb") ∷ Text (codes "c") ∷ Text (codes "ab") ∷ []) ≡ Some (Text (codes "ab"), Text (codes "c"))
texts = refl

flags : ends_of (Flag true ∷ Null ∷ Flag true ∷ []) ≡ Some (Flag true, Flag true)
flags = refl

-- without a value there are no ends
none : ends_of [] ≡ None
none = refl

nulls : ends_of (Null ∷ Null ∷ []) ≡ None
nulls = refl

-- nulls are counted
counted : stats_of (Null ∷ Int (pos 7) ∷ Null ∷ []) ≡ record { ends = Some (Int (pos 7), Int (pos 7)); nulls = 2 }
counted = refl

some_null : has_nulls (stats_of (Null ∷ [])) ≡ true
some_null = refl

no_null : has_nulls (stats_of (Int (pos 0) ∷ [])) ≡ false
no_null = refl
