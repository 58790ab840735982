-- More groups, and columns of counts.
use Rattle.std.proofs.Common.{◌≡◌, ◌≤◌, ℕ, pos, All, List, [], ◌∷◌, length, map, take, drop, refl, sym, ap, ◌∙◌, subst, arith}
use Rattle.std.proofs.lemmas.List.{drop-map, get_or-map, length-map, take-map}
use Rattle.std.proofs.lemmas.List.Elements.{All-drop, All-map, All-take}
use Rattle.scan_base.specs.declared.value.Value.{Value}
use Rattle.scan_base.specs.declared.value.Value.TheVariants.{Int}
use Rattle.group_slots.specs.declared.tally.Tally.{Tally}
use Rattle.group_slots.specs.Tallies.{no_rows}
use Rattle.group_slots.specs.HeldTallies.{count_tally, count_tallies, padded}
use Rattle.group_slots.proofs.Padded.{padded_long, padded_same}
use Rattle.grouping.specs.inside.Merging.{AreTalliesJoined, joined_tallies}

-- others are joined to them
pub padded_joined : (groups : List ℕ) (others : List Tally) (found : ℕ) (before middle after : List Tally) → length before ≤ found →
    middle ≡ padded found before → after ≡ joined_tallies groups others middle (length groups) → AreTalliesJoined groups others found before after
padded_joined groups others found before middle after fits is made = record {
  padded = padded found before;
  long = padded_long found before fits;
  same = padded_same found before fits;
  is = made ∙ ap (λ (tallies : List Tally). joined_tallies groups others tallies (length groups)) is;
}

-- a part of counts is that of their tallies
pub counts_part : (from many : ℕ) (counts : List ℕ) → take many (drop from (count_tallies counts)) ≡ count_tallies (take many (drop from counts))
counts_part from many counts = ap (take many) (drop-map count_tally from counts) ∙ take-map count_tally many (drop from counts)

-- a part of counts are few
pub part_few : (most from many : ℕ) (counts part : List ℕ) → part ≡ take many (drop from counts) →
    All (λ (tally : Tally). tally.count ≤ most) (count_tallies counts) → All (λ (count : ℕ). count ≤ most) part
part_few most from many counts part cut few =
    let each : All (λ (count : ℕ). count ≤ most) counts =
    λ k d low. omega (arith, few k no_rows (omega (arith, low, length-map counts count_tally)), ap (λ (tally : Tally). tally.count) (get_or-map count_tally counts k d no_rows low)) in
    subst (All (λ (count : ℕ). count ≤ most)) (sym cut)
    (All-take (λ (count : ℕ). count ≤ most) many (drop from counts) (All-drop (λ (count : ℕ). count ≤ most) from counts each))

-- so are the counts of a part of tallies
pub narrowed_few : (most from many : ℕ) (tallies part : List Tally) (counts : List ℕ) → part ≡ take many (drop from tallies) →
    counts ≡ map (λ (tally : Tally). tally.count) part → All (λ (tally : Tally). tally.count ≤ most) tallies → All (λ (count : ℕ). count ≤ most) counts
narrowed_few most from many tallies part counts cut is few =
    subst (All (λ (count : ℕ). count ≤ most)) (sym is)
    (All-map (λ (count : ℕ). count ≤ most) (λ (tally : Tally). tally.count) part
    (subst (All (λ (tally : Tally). tally.count ≤ most)) (sym cut)
    (All-take (λ (tally : Tally). tally.count ≤ most) many (drop from tallies) (All-drop (λ (tally : Tally). tally.count ≤ most) from tallies few))))

counts_shown : (counts : List ℕ) → map (λ (count : ℕ). Int (pos count)) counts ≡ map (λ (tally : Tally). Int (pos tally.count)) (count_tallies counts)
counts_shown [] = refl
counts_shown (count ∷ counts) = ap (λ (values : List Value). Int (pos count) ∷ values) (counts_shown counts)

-- the values of a part of counts
pub part_shown : (from many : ℕ) (counts part : List ℕ) → part ≡ take many (drop from counts) →
    map (λ (count : ℕ). Int (pos count)) part ≡ map (λ (tally : Tally). Int (pos tally.count)) (take many (drop from (count_tallies counts)))
part_shown from many counts part cut =
    ap (map (λ (count : ℕ). Int (pos count))) cut ∙ counts_shown (take many (drop from counts))
    ∙ ap (map (λ (tally : Tally). Int (pos tally.count))) (sym (counts_part from many counts))

tallies_shown : (tallies : List Tally) → map (λ (count : ℕ). Int (pos count)) (map (λ (tally : Tally). tally.count) tallies) ≡ map (λ (tally : Tally). Int (pos tally.count)) tallies
tallies_shown [] = refl
tallies_shown (tally ∷ tallies) = ap (λ (values : List Value). Int (pos tally.count) ∷ values) (tallies_shown tallies)

-- and of the counts of a part of tallies
pub narrowed_shown : (from many : ℕ) (tallies part : List Tally) (counts : List ℕ) → part ≡ take many (drop from tallies) →
    counts ≡ map (λ (tally : Tally). tally.count) part →
    map (λ (count : ℕ). Int (pos count)) counts ≡ map (λ (tally : Tally). Int (pos tally.count)) (take many (drop from tallies))
narrowed_shown from many tallies part counts cut is =
    ap (map (λ (count : ℕ). Int (pos count))) is ∙ tallies_shown part ∙ ap (map (λ (tally : Tally). Int (pos tally.count))) cut
