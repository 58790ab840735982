-- What a reading gave, step by step, and how long things are.
use Rattle.std.proofs.Common.{◌≡◌, ℕ, ◌+◌, ◌-◌, ◌/◌, ◌%◌, ◌∙◌, ◌&&◌, Bool, true, false, List, [], ◌∷◌, map, length, arith, Result, Ok, Err, refl, ap, sym, IfOk}
use Rattle.std.proofs.lemmas.List.{length-append}
use Rattle.std.specs.List.{list_all, range_with_len}
use Rattle.std.proofs.lemmas.List.Folds.{list_all-append}
use Rattle.std.proofs.lemmas.List.FromFn.{length-map-range_with_len, map-range_with_len_more}
use Rattle.scan_base.specs.declared.fault.Fault.{Fault}
use Rattle.scan_base.specs.Reading.{◌>>=◌, demand}
use Rattle.flatbuf.specs.Block.{padding, padded}
use Rattle.flatbuf.proofs.Standing.{length_padding}
use Rattle.ipc_batch.specs.Parts.{node_at, place_at, nodes_in, places_in, struct_count}

-- a reading that gave a value
abbrev pub fine : {A : Type 0} → A → Result A Fault
fine x = Ok x

-- what both readings gave, where one after the other gives a value
pub both : {A B : Type 0} (read : Result A Fault) (next : A → Result B Fault) (y : B) → (read >>= next) ≡ Ok y → (x : A) × (read ≡ Ok x) × (next x ≡ Ok y)
both (Ok x) next y e = (x, refl, e)
both (Err fault) next y e = cc

-- what follows of a result's value
pub on_ok : {A E : Type 0} {P Q : A → Type 0} (result : Result A E) → ((x : A) → P x → Q x) → IfOk result P → IfOk result Q
on_ok (Ok x) more holds = more x holds
on_ok (Err e) more holds = tt

-- what comes after a condition, where both give a value
pub demanded : {B : Type 0} (test : Bool) (fault : Fault) (next : Result B Fault) (y : B) → (demand test fault >>= λ _. next) ≡ Ok y → next ≡ Ok y
demanded true fault next y e = e
demanded false fault next y e = cc

-- how many structs there are
pub nodes_many : (structs : List ℕ) → length structs / 16 ≡ length (nodes_in structs)
nodes_many structs = sym (length-map-range_with_len (node_at structs) 0 (struct_count structs))

pub places_many : (structs : List ℕ) → length structs / 16 ≡ length (places_in structs)
places_many structs = sym (length-map-range_with_len (place_at structs) 0 (struct_count structs))

-- how many bytes a buffer has with its zeros
pub length_with_zeros : (buffer : List ℕ) → length (padded buffer) ≡ length buffer + (8 - length buffer % 8) % 8
length_with_zeros buffer = length-append buffer (padding (length buffer)) ∙ ap (λ (n : ℕ). length buffer + n) (length_padding (length buffer))

-- whether a test holds of so many items and one more
pub all_more : {X : Type 0} (test : X → Bool) (item : ℕ → X) (j : ℕ) → list_all test (map item (range_with_len 0 (j + 1))) ≡ (list_all test (map item (range_with_len 0 j)) && test (item j))
all_more test item j =
    ap (list_all test) (map-range_with_len_more item 0 j j (omega arith)) ∙ list_all-append test (map item (range_with_len 0 j)) (item j ∷ [])
    ∙ ap (λ (last : Bool). list_all test (map item (range_with_len 0 j)) && last) (and_one (test (item j)))
  where
    and_one : (b : Bool) → (b && true) ≡ b
    and_one true = refl
    and_one false = refl
