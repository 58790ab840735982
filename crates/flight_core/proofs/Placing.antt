-- Entries with their places.
use Rattle.std.proofs.Common.{◌≡◌, ℕ, ◌+◌, List, [], ◌∷◌, ◌++◌, length, refl, ap, ◌∙◌, arith}
use Rattle.std.proofs.lemmas.List.{map-append}
use Rattle.version_log.specs.Log.{Entry, Log}
use Rattle.flight_core.specs.PlacedEntries.{Placed, placed, log_in}

placed-append : (place : ℕ) (log more : Log) → placed place (log ++ more) ≡ placed place log ++ placed (place + length log) more
placed-append place [] more = let at : place ≡ place + 0 = omega arith in ap (λ n. placed n more) at
placed-append place (entry ∷ log) more =
    let at : place + 1 + length log ≡ place + length (entry ∷ log) = omega arith in
    ap (λ all. (place, entry) ∷ all) (placed-append (place + 1) log more ∙ ap (λ n. placed (place + 1) log ++ placed n more) at)

-- from the first place on
pub placed_behind : (log more : Log) → placed 0 (log ++ more) ≡ placed 0 log ++ placed (length log) more
placed_behind log more =
    let at : 0 + length log ≡ length log = omega arith in
    placed-append 0 log more ∙ ap (λ n. placed 0 log ++ placed n more) at

-- with one entry more
pub placed_more : (log more : Log) (entry : Entry) → more ≡ log ++ entry ∷ [] → placed 0 more ≡ placed 0 log ++ (length log, entry) ∷ []
placed_more log more entry is = ap (placed 0) is ∙ placed_behind log (entry ∷ [])

pub log_in-append : (made more : List Placed) → log_in (made ++ more) ≡ log_in made ++ log_in more
log_in-append made more = map-append (λ (one : Placed). one.1) made more

pub log_in-placed : (place : ℕ) (log : Log) → log_in (placed place log) ≡ log
log_in-placed place [] = refl
log_in-placed place (entry ∷ log) = ap (λ all. entry ∷ all) (log_in-placed (place + 1) log)

-- what is added after what was made
pub log_in-more : (made new : List Placed) (place : ℕ) (more : Log) → new ≡ made ++ placed place more → log_in new ≡ log_in made ++ more
log_in-more made new place more is =
    ap log_in is ∙ (log_in-append made (placed place more) ∙ ap (λ (l : Log). log_in made ++ l) (log_in-placed place more))
