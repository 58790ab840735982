-- Counts of other groups that are added to those of groups.
use Rattle.std.proofs.Common.{◌≡◌, ◌≤◌, ◌<◌, ℕ, ◌+◌, List, length, get_or, slice_set, sym, ap, ◌∙◌, arith}
use Rattle.std.proofs.lemmas.List.{length-map, map-set}
use Rattle.group_slots.specs.declared.tally.Tally.{Tally}
use Rattle.group_slots.specs.Tallies.{no_rows, both}
use Rattle.group_slots.specs.Counting.{counted_in}
use Rattle.group_slots.specs.HeldTallies.{count_tally, count_tallies}
use Rattle.group_slots.proofs.Counted.{count_at, count_small}
use Rattle.grouping.proofs.JoiningAll.{IsJoining, few_both, step as join_step}

-- two counts that are added are few
pub joined_few : (groups others : List ℕ) (before : List Tally) (k : ℕ) (counts : List ℕ) (most d e : ℕ) → IsJoining groups (count_tallies others) before k (count_tallies counts) →
    k < length others → get_or groups k 0 < length counts → counted_in before + counted_in (count_tallies others) ≤ most →
    get_or counts (get_or groups k 0) d + get_or others k e ≤ most
joined_few groups others before k counts most d e so low there few =
    let group = get_or groups k 0 in
    let sum = few_both groups (count_tallies others) before k (count_tallies counts) group most no_rows no_rows so
    (omega (arith, there, length-map counts count_tally)) (omega (arith, low, length-map others count_tally)) few in
    omega (arith, sum, ap (λ (tally : Tally). tally.count) (count_at counts group d there), ap (λ (tally : Tally). tally.count) (count_at others k e low))

-- one other group more
pub count_join : (groups others : List ℕ) (before : List Tally) (k : ℕ) (counts : List ℕ) (d e new : ℕ) →
    IsJoining groups (count_tallies others) before k (count_tallies counts) → k < length others → get_or groups k 0 < length counts →
    new ≡ get_or counts (get_or groups k 0) d + get_or others k e →
    IsJoining groups (count_tallies others) before (k + 1) (count_tallies (slice_set counts (get_or groups k 0) new))
count_join groups others before k counts d e new so low there made =
    let group = get_or groups k 0 in
    let own = count_at counts group d there in
    let other = count_at others k e low in
    let sum : count_tally new ≡ both (count_tally (get_or counts group d)) (count_tally (get_or others k e)) = ap count_tally made in
    rw map-set
    (join_step groups (count_tallies others) before k (count_tallies counts) (count_tally new) so
    (omega (arith, low, length-map others count_tally)) (omega (arith, there, length-map counts count_tally))
    (sum ∙ ap (λ (tally : Tally). both tally (count_tally (get_or others k e))) (sym own) ∙ ap (both (get_or (count_tallies counts) group no_rows)) (sym other))
    (count_small new))
