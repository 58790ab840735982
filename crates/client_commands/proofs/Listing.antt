-- Names that are gathered row by row.
use native.Mathlib.Omega.{arith}
use Rattle.std.proofs.Common.{◌≡◌, ◌<◌, ℕ, ◌+◌, ◌-◌, List, [], ◌∷◌, ◌++◌, length, map, take, drop, get_or, Result, Ok, Err, refl, sym, ap, ◌∙◌, append_assoc, append-nil}
use Rattle.std.specs.List.{flat_map, range_with_len}
use Rattle.std.proofs.lemmas.Grind.{flat_map-append}
use Rattle.std.proofs.lemmas.List.{take-append-drop, take_more, drop_more}
use Rattle.scan_base.specs.declared.fault.Fault.{Fault}
use Rattle.scan_base.specs.declared.value.Value.{Value}
use Rattle.scan_base.specs.Lists.{each}
use Rattle.scan_base.proofs.ReadingLaws.{behind, numbers_more, numbers_stop}
use Rattle.scan_base.specs.Reading.{◌>>=◌}
use Rattle.arrays.specs.Batch.{BatchAt, row_of, rows_of}
use Rattle.client_commands.specs.Names.{name_in}
use Rattle.client_commands.specs.inside.Naming.{AddsNames}

-- reading what a function gives is reading by both
each_map : {A B C : Type 0} (read : B → Result C Fault) (f : A → B) (xs : List A) → each read (map f xs) ≡ each (λ x. read (f x)) xs
each_map {C = C} read f [] = refl
each_map {C = C} read f (x ∷ xs) = ap (λ (rest : Result (List C) Fault). read (f x) >>= λ y. (rest >>= λ ys. Ok (y ∷ ys))) (each_map read f xs)

-- the name in a row of a batch
abbrev pub name_of : BatchAt → ℕ → Result (List ℕ) Fault
name_of batch place = name_in (row_of batch.columns place)

-- the names of the rows so far, and those that are left
pub record IsListed (batch : BatchAt) (place : ℕ) (old new : List (List ℕ)) : Type 0 where
  pub done : List (List ℕ)
  pub grown : new ≡ old ++ done
  pub left : each name_in (rows_of batch) ≡ behind done (each (name_of batch) (range_with_len place (batch.rows - place)))

pub none_listed : (batch : BatchAt) (old : List (List ℕ)) → IsListed batch 0 old old
none_listed batch old = record {
  done = [];
  grown = sym (append-nil old);
  left =
      each_map name_in (row_of batch.columns) (range_with_len 0 batch.rows)
      ∙ ap (λ (n : ℕ). each (name_of batch) (range_with_len 0 n)) whole
      ∙ sym (nothing (each (name_of batch) (range_with_len 0 (batch.rows - 0))));
}
  where
    whole : batch.rows ≡ batch.rows - 0
    whole = omega arith

    nothing : (rest : Result (List (List ℕ)) Fault) → behind [] rest ≡ rest
    nothing (Ok names) = refl
    nothing (Err fault) = refl

pub more_listed : (batch : BatchAt) (place : ℕ) (old mid new : List (List ℕ)) (name : List ℕ) → place < batch.rows → name_of batch place ≡ Ok name → new ≡ mid ++ name ∷ []
    → IsListed batch place old mid → IsListed batch (place + 1) old new
more_listed batch place old mid new name lt is grown listed = record {
  done = listed.done ++ name ∷ [];
  grown = grown ∙ ap (λ (l : List (List ℕ)). l ++ name ∷ []) listed.grown ∙ append_assoc old listed.done (name ∷ []);
  left = listed.left ∙ numbers_more (name_of batch) listed.done place batch.rows name lt is;
}

pub not_listed : (batch : BatchAt) (place : ℕ) (old new : List (List ℕ)) (fault : Fault) → place < batch.rows → name_of batch place ≡ Err fault
    → IsListed batch place old new → each name_in (rows_of batch) ≡ Err fault
not_listed batch place old new fault lt is listed = listed.left ∙ numbers_stop (name_of batch) listed.done place batch.rows fault lt is

-- ---- the rows of batches

-- what is read of some items, and then of others
each_join : {A B : Type 0} (read : A → Result B Fault) (xs ys : List A) (done : List B) → each read xs ≡ Ok done → each read (xs ++ ys) ≡ behind done (each read ys)
each_join {B = B} read [] ys done all = let same : [] ≡ done = cc in rw (← same) (nothing (each read ys))
  where
    nothing : (rest : Result (List B) Fault) → rest ≡ behind [] rest
    nothing (Ok names) = refl
    nothing (Err fault) = refl
each_join {A = A} {B = B} read (x ∷ xs) ys done all = by (read x) (each read xs) refl refl all (λ before others. each_join read xs ys before others)
  where
    further : (y : B) (before : List B) (after : Result (List B) Fault) → (behind before after >>= λ (l : List B). Ok (y ∷ l)) ≡ behind (y ∷ before) after
    further y before (Ok l) = refl
    further y before (Err fault) = refl

    both_read : Result B Fault → Result (List B) Fault → Result (List B) Fault
    both_read one rest = one >>= λ (y : B). (rest >>= λ (l : List B). Ok (y ∷ l))

    by : (one : Result B Fault) (rest : Result (List B) Fault) → read x ≡ one → each read xs ≡ rest → both_read one rest ≡ Ok done
        → ((before : List B) → each read xs ≡ Ok before → each read (xs ++ ys) ≡ behind before (each read ys))
        → both_read (read x) (each read (xs ++ ys)) ≡ behind done (each read ys)
    by (Err fault) rest first others e further_join = absurd cc
    by (Ok y) (Err fault) first others e further_join = absurd cc
    by (Ok y) (Ok before) first others e further_join =
        let same : y ∷ before ≡ done = cc in
        ap (λ (one : Result B Fault). both_read one (each read (xs ++ ys))) first
        ∙ ap (both_read (Ok y)) (further_join before others)
        ∙ further y before (each read ys)
        ∙ ap (λ (l : List B). behind l (each read ys)) same

-- the names in the rows of the first batches
abbrev pub ListsFirst : List BatchAt → ℕ → List (List ℕ) → Type 0
ListsFirst batches i names = each name_in (flat_map rows_of (take i batches)) ≡ Ok names

rows_split : (batches : List BatchAt) (i : ℕ) (batch : BatchAt) → i < length batches → batch ≡ get_or batches i batch
    → flat_map rows_of batches ≡ flat_map rows_of (take i batches) ++ (rows_of batch ++ flat_map rows_of (drop (i + 1) batches))
rows_split batches i batch inside is =
    ap (flat_map rows_of) (sym (take-append-drop i batches) ∙ ap (λ (l : List BatchAt). take i batches ++ l) (drop_more batches i batch inside ∙ ap (λ (b : BatchAt). b ∷ drop (i + 1) batches) (sym is)))
    ∙ flat_map-append rows_of (take i batches) (batch ∷ drop (i + 1) batches)

rows_more : (batches : List BatchAt) (i : ℕ) (batch : BatchAt) → i < length batches → batch ≡ get_or batches i batch
    → flat_map rows_of (take (i + 1) batches) ≡ flat_map rows_of (take i batches) ++ rows_of batch
rows_more batches i batch inside is =
    ap (flat_map rows_of) (take_more batches i batch inside ∙ ap (λ (b : BatchAt). take i batches ++ b ∷ []) (sym is))
    ∙ flat_map-append rows_of (take i batches) (batch ∷ [])
    ∙ ap (λ (l : List (List Value)). flat_map rows_of (take i batches) ++ l) (append-nil (rows_of batch))

pub batch_listed : (batches : List BatchAt) (i : ℕ) (batch : BatchAt) (old new : List (List ℕ)) → i < length batches → batch ≡ get_or batches i batch
    → ListsFirst batches i old → AddsNames (Ok tt) old new (rows_of batch) → ListsFirst batches (i + 1) new
batch_listed batches i batch old new inside is listed adds =
    rw (rows_more batches i batch inside is, each_join name_in (flat_map rows_of (take i batches)) (rows_of batch) old listed, adds.1, adds.2) refl

-- names of which one cannot be read, and others after them
each_stop : (fault : Fault) (xs ys : List (List Value)) → each name_in xs ≡ Err fault → each name_in (xs ++ ys) ≡ Err fault
each_stop fault [] ys e = absurd cc
each_stop fault (x ∷ xs) ys e = by (name_in x) (each name_in xs) refl refl e (λ all. each_stop fault xs ys all)
  where
    both_read : Result (List ℕ) Fault → Result (List (List ℕ)) Fault → Result (List (List ℕ)) Fault
    both_read one rest = one >>= λ (y : List ℕ). (rest >>= λ (l : List (List ℕ)). Ok (y ∷ l))

    by : (one : Result (List ℕ) Fault) (rest : Result (List (List ℕ)) Fault) → name_in x ≡ one → each name_in xs ≡ rest → both_read one rest ≡ Err fault
        → (each name_in xs ≡ Err fault → each name_in (xs ++ ys) ≡ Err fault) → both_read (name_in x) (each name_in (xs ++ ys)) ≡ Err fault
    by (Err other) rest first all e stop = ap (λ (one : Result (List ℕ) Fault). both_read one (each name_in (xs ++ ys))) first ∙ e
    by (Ok name) (Ok names) first all e stop = absurd cc
    by (Ok name) (Err other) first all e stop =
        ap (λ (one : Result (List ℕ) Fault). both_read one (each name_in (xs ++ ys))) first
        ∙ ap (both_read (Ok name)) (stop (all ∙ e))

pub batch_refused : (batches : List BatchAt) (i : ℕ) (batch : BatchAt) (old : List (List ℕ)) (fault : Fault) → i < length batches → batch ≡ get_or batches i batch
    → ListsFirst batches i old → each name_in (rows_of batch) ≡ Err fault → each name_in (flat_map rows_of batches) ≡ Err fault
batch_refused batches i batch old fault inside is listed refused =
    rw (
      rows_split batches i batch inside is,
      each_join name_in (flat_map rows_of (take i batches)) (rows_of batch ++ flat_map rows_of (drop (i + 1) batches)) old listed,
      each_stop fault (rows_of batch) (flat_map rows_of (drop (i + 1) batches)) refused,
    ) refl
