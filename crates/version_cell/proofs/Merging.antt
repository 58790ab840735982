-- Lists that were made by one and by another.
use Rattle.std.proofs.Common.{◌≡◌, inl, inr, ◌+◌, ◌≤◌, List, [], ◌∷◌, ◌++◌, length, map, refl, ap, ◌∙◌, arith}
use Rattle.version_cell.specs.Merges.{Merges, MergesAll}
use Rattle.version_cell.specs.SignedEntries.{IsAmong}

-- one made nothing
pub merges_none : {X : Type 0} (log : List X) → Merges [] log log
merges_none [] = (refl, refl)
merges_none (entry ∷ log) = inr (log, refl, merges_none log)

-- the other made more
pub merges_more : {X : Type 0} (one other log more : List X) → Merges one other log → Merges one (other ++ more) (log ++ more)
merges_more one other [] more (none, no_other) = rw (none, no_other) (merges_none more)
merges_more one other (entry ∷ log) more (inl (rest, is, behind)) = inl (rest, is, merges_more rest other log more behind)
merges_more one other (entry ∷ log) more (inr (rest, is, behind)) = inr (rest ++ more, ap (λ all. all ++ more) is, merges_more one rest log more behind)

-- the one made one entry more
pub merges_last : {X : Type 0} (one other log : List X) (entry : X) → Merges one other log → Merges (one ++ entry ∷ []) other (log ++ entry ∷ [])
merges_last one other [] entry (none, no_other) = inl ([], ap (λ all. all ++ entry ∷ []) none, (refl, no_other))
merges_last one other (first ∷ log) entry (inl (rest, is, behind)) = inl (rest ++ entry ∷ [], ap (λ all. all ++ entry ∷ []) is, merges_last rest other log entry behind)
merges_last one other (first ∷ log) entry (inr (rest, is, behind)) = inr (rest, is, merges_last one rest log entry behind)

pub merges_length : {X : Type 0} (one other log : List X) → Merges one other log → length one + length other ≡ length log
merges_length one other [] (none, no_other) = omega (arith, ap length none, ap length no_other)
merges_length one other (entry ∷ log) (inl (rest, is, behind)) = omega (arith, ap length is, merges_length rest other log behind)
merges_length one other (entry ∷ log) (inr (rest, is, behind)) = omega (arith, ap length is, merges_length one rest log behind)

-- the other made nothing
pub merges_whole : {X : Type 0} (one other log : List X) → Merges one other log → length other ≡ 0 → one ≡ log
merges_whole one other [] (none, no_other) few = none
merges_whole one other (entry ∷ log) (inl (rest, is, behind)) few = is ∙ ap (λ all. entry ∷ all) (merges_whole rest other log behind few)
merges_whole one other (entry ∷ log) (inr (rest, is, behind)) few = absurd (omega (arith, ap length is))

-- the same of what is read of each item
pub merges_map : {X Y : Type 0} (f : X → Y) (one other log : List X) → Merges one other log → Merges (map f one) (map f other) (map f log)
merges_map f one other [] (none, no_other) = (ap (map f) none, ap (map f) no_other)
merges_map f one other (entry ∷ log) (inl (rest, is, behind)) = inl (map f rest, ap (map f) is, merges_map f rest other log behind)
merges_map f one other (entry ∷ log) (inr (rest, is, behind)) = inr (map f rest, ap (map f) is, merges_map f one rest log behind)

pub all_map : {X Y : Type 0} (f : X → Y) (each : List (List X)) (log : List X) → MergesAll each log → MergesAll (map (map f) each) (map f log)
all_map f [] log none = ap (map f) none
all_map f (one ∷ others) log (rest, is, more) = (map f rest, merges_map f one rest log is, all_map f others rest more)

-- ---- entries among others

pub none_among : {X : Type 0} (some all : List X) → some ≡ [] → IsAmong some all
none_among some all none = (all, rw none (merges_none all))

pub among_more : {X : Type 0} (some all more : List X) → IsAmong some all → IsAmong some (all ++ more)
among_more some all more (rest, is) = (rest ++ more, merges_more some rest all more is)

pub among_last : {X : Type 0} (some all : List X) (entry : X) → IsAmong some all → IsAmong (some ++ entry ∷ []) (all ++ entry ∷ [])
among_last some all entry (rest, is) = (rest, merges_last some rest all entry is)

pub among_length : {X : Type 0} (some all : List X) → IsAmong some all → length some ≤ length all
among_length some all (rest, is) = omega (arith, merges_length some rest all is)

-- as many as there are
pub among_whole : {X : Type 0} (some all : List X) → IsAmong some all → length some ≡ length all → some ≡ all
among_whole some all (rest, is) same = merges_whole some rest all is (omega (arith, same, merges_length some rest all is))
