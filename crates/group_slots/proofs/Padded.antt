-- More groups.
use Rattle.std.proofs.Common.{◌≡◌, ◌≤◌, ◌<◌, ◌-◌, ℕ, List, [], ◌++◌, length, get_or, take, replicate, refl, sym, ap, ◌∙◌, subst, arith, ◌⊎◌, inl, inr}
use Rattle.std.proofs.lemmas.Bool.{cases_lt}
use Rattle.std.proofs.lemmas.List.{get_or-append_right, get_or-replicate, get_or_append_left, get_or_past, length-append, length-replicate, take_all}
use Rattle.group_slots.specs.declared.tally.Tally.{Tally}
use Rattle.group_slots.specs.Tallies.{no_rows}
use Rattle.group_slots.specs.HeldTallies.{AreBlank, count_tallies, padded}

-- there are so many
pub padded_long : (groups : ℕ) (tallies : List Tally) → length tallies ≤ groups → length (padded groups tallies) ≡ groups
padded_long groups tallies fits =
    let back = replicate (groups - length tallies) no_rows in
    omega (arith, fits, length-append (take groups tallies) back, ap length (take_all groups tallies fits), length-replicate (groups - length tallies) no_rows)

-- and each is as it was, or of no rows
pub padded_same : (groups : ℕ) (tallies : List Tally) → length tallies ≤ groups → (group : ℕ) → group < groups →
    get_or (padded groups tallies) group no_rows ≡ get_or tallies group no_rows
padded_same groups tallies fits group low =
    ap (λ (front : List Tally). get_or (front ++ back) group no_rows) (take_all groups tallies fits) ∙ by (cases_lt group (length tallies))
  where
    back : List Tally
    back = replicate (groups - length tallies) no_rows

    by : (group < length tallies) ⊎ (length tallies ≤ group) → get_or (tallies ++ back) group no_rows ≡ get_or tallies group no_rows
    by (inl here) = get_or_append_left tallies back no_rows group here
    by (inr past) =
        get_or-append_right tallies back (length tallies) group no_rows refl past
        ∙ get_or-replicate (groups - length tallies) (group - length tallies) no_rows no_rows (omega (arith, past, low))
        ∙ sym (get_or_past tallies group no_rows past)

-- where there were none, all are of no rows
pub padded_blank : (groups : ℕ) (counts : List ℕ) (after : List Tally) → counts ≡ [] → after ≡ padded groups (count_tallies counts) → AreBlank groups after
padded_blank groups counts after none is =
    subst (AreBlank groups) (sym (is ∙ ap (λ (counts : List ℕ). padded groups (count_tallies counts)) none))
    (record {
      long = padded_long groups [] (omega arith);
      each = λ group low. padded_same groups [] (omega arith) group low ∙ get_or_past {X = Tally} [] group no_rows (omega arith);
    })
