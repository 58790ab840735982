-- What is read as groups stands at the front, and what stands at the front is read.
use Rattle.std.proofs.Common.{◌≡◌, ℕ, zero, suc, ◌+◌, ◌-◌, ◌*◌, ◌%◌, ◌^◌, ◌<◌, ◌≤◌, List, [], ◌∷◌, ◌++◌, length, Result, Ok, Err, refl, ap, sym, ◌∙◌, arith, inl, inr, add_comm}
use Rattle.std.proofs.lemmas.Bool.{cases_lt, lt-ltb, le-ltb}
use Rattle.std.proofs.Math.Nat.{add-mod-mod}
use Rattle.std.proofs.lemmas.Nat.{pow-add}
use Rattle.scan_base.specs.declared.fault.Fault.{Fault}
use Rattle.scan_base.specs.declared.fault.Fault.TheVariants.{BadProto}
use Rattle.scan_base.specs.Reading.{◌>>=◌}
use Rattle.proto_wire.specs.Standard.{IsGroups, groups_value, IsVarint}
use Rattle.proto_wire.specs.Reading.{groups_within, varint_at}
use Rattle.proto_wire.proofs.Then.{same_front, then_ok}

-- a front of the bytes with this property, before the rest
pub record Front (P : List ℕ → Type 0) (bytes rest : List ℕ) : Type 0 where
  pub front : List ℕ
  pub whole : bytes ≡ front ++ rest
  pub holds : P front

-- so many groups at most, which say this value
pub record Says (places value : ℕ) (bytes : List ℕ) : Type 0 where
  pub groups : IsGroups bytes
  pub short : length bytes ≤ places
  pub value_is : value ≡ groups_value bytes

one_more : (places b : ℕ) (bytes : List ℕ) (value : ℕ) (rest : List ℕ) → 128 ≤ b → Front (Says places value) bytes rest → Front (Says (suc places) (b % 128 + 128 * value)) (b ∷ bytes) rest
one_more places b bytes value rest le f = more f.front f.whole f.holds
  where
    more : (front : List ℕ) → bytes ≡ front ++ rest → Says places value front → Front (Says (suc places) (b % 128 + 128 * value)) (b ∷ bytes) rest
    more [] w s = absurd s.groups
    more (x ∷ xs) w s = record {
      front = b ∷ x ∷ xs;
      whole = ap (λ (t : List ℕ). b ∷ t) w;
      holds = record { groups = (le, s.groups); short = (let l = s.short in omega arith); value_is = ap (λ (n : ℕ). b % 128 + 128 * n) s.value_is };
    }

pub groups_stand : (places : ℕ) (bytes : List ℕ) (value : ℕ) (rest : List ℕ) → groups_within places bytes ≡ Ok (value, rest) → Front (Says places value) bytes rest
groups_stand zero bytes value rest e = absurd cc
groups_stand (suc places) [] value rest e = absurd cc
groups_stand (suc places) (b ∷ bytes) value rest e =
    elim (cases_lt b 128) [
      | inl lt ↦
          let p = same_front b value bytes rest (rw (lt-ltb b 128 lt) at e) in
          record { front = b ∷ []; whole = ap (λ (t : List ℕ). b ∷ t) p.1; holds = record { groups = lt; short = omega arith; value_is = omega (arith, p.0) } }
      | inr le ↦
          then_ok (groups_within places bytes) (λ (high : ℕ × List ℕ). Ok (b % 128 + 128 * high.0, high.1)) (value, rest) (rw (le-ltb b 128 le) at e) (λ high found made.
          let p = same_front (b % 128 + 128 * high.0) value high.1 rest made in
          rw (← p.0, ← p.1) (one_more places b bytes high.0 high.1 le (groups_stand places bytes high.0 high.1 found)))
    ]

pub groups_again : (front : List ℕ) (places : ℕ) (rest : List ℕ) → IsGroups front → length front ≤ places → groups_within places (front ++ rest) ≡ Ok (groups_value front, rest)
groups_again [] places rest g l = absurd g
groups_again (b ∷ bytes) zero rest g l = absurd (omega arith)
groups_again (b ∷ []) (suc places) rest g l =
    let e : b % 128 + 128 * 0 ≡ b = omega arith in
    rw (lt-ltb b 128 g, e) refl
groups_again (b ∷ c ∷ bytes) (suc places) rest g l =
    rw (le-ltb b 128 g.0, groups_again (c ∷ bytes) places rest g.1 (omega arith)) refl

-- ---- varints

pub varint_stands : (bytes : List ℕ) (value : ℕ) (rest : List ℕ) → varint_at bytes ≡ Ok (value, rest) → Front (λ front. IsVarint front value) bytes rest
unfolding varint_at
varint_stands bytes value rest e =
    then_ok (groups_within 10 bytes) (λ (groups : ℕ × List ℕ). Ok (groups.0 % 2 ^ 64, groups.1)) (value, rest) e (λ groups found made.
    let p = same_front (groups.0 % 2 ^ 64) value groups.1 rest made in
    let f = groups_stand 10 bytes groups.0 groups.1 found in
    record {
      front = f.front;
      whole = rw (← p.1) f.whole;
      holds = record { groups = f.holds.groups; short = f.holds.short; value_is = rw (← p.0, ← f.holds.value_is) refl };
    })

pub varint_again : (front : List ℕ) (value : ℕ) (rest : List ℕ) → IsVarint front value → varint_at (front ++ rest) ≡ Ok (value, rest)
unfolding varint_at
varint_again front value rest v =
    rw (groups_again front 10 rest v.groups v.short, v.value_is) refl

-- ---- the value so far, and the groups that follow so many places

abbrev pub with_groups : ℕ → ℕ → Result (ℕ × List ℕ) Fault → Result (ℕ × List ℕ) Fault
with_groups place value groups =
    groups >>= λ high. Ok ((value + 2 ^ (7 * place) * high.0) % 2 ^ 64, high.1)

-- the value so far and the groups that follow are the varint of the whole
abbrev pub Continues : List ℕ → ℕ → ℕ → List ℕ → Type 0
Continues bytes place value rest =
    (place ≤ 10) × (with_groups place value (groups_within (10 - place) rest) ≡ varint_at bytes)

carried : (value group scale high m : ℕ) → ((value + group * scale % m) % m + (scale * 128) * high) % m ≡ (value + scale * (group + 128 * high)) % m
carried value group scale high m =
    ap (λ (n : ℕ). n % m) (add_comm _ ((scale * 128) * high))
    ∙ add-mod-mod ((scale * 128) * high) (value + group * scale % m) m
    ∙ ap (λ (n : ℕ). n % m) (add_assoc' ((scale * 128) * high) value (group * scale % m))
    ∙ add-mod-mod ((scale * 128) * high + value) (group * scale) m
    ∙ ap (λ (n : ℕ). n % m) same
  where
    add_assoc' : (a b c : ℕ) → a + (b + c) ≡ a + b + c
    add_assoc' a b c = omega arith

    same : (scale * 128) * high + value + group * scale ≡ value + scale * (group + 128 * high)
    same = omega arith

pub continues_first : (bytes : List ℕ) → Continues bytes 0 0 bytes
unfolding varint_at
continues_first bytes = (omega arith, same (groups_within 10 bytes))
  where
    same : (groups : Result (ℕ × List ℕ) Fault) → with_groups 0 0 groups ≡ (groups >>= λ high. Ok (high.0 % 2 ^ 64, high.1))
    same (Err fault) = refl
    same (Ok high) = let e : 0 + 1 * high.0 ≡ high.0 = omega arith in rw e refl

pub continues_end : (bytes : List ℕ) (place value : ℕ) (rest : List ℕ) → length rest ≡ 0 → place < 10 → Continues bytes place value rest → varint_at bytes ≡ Err BadProto
continues_end bytes place value [] empty lt c =
    let e : 10 - place ≡ suc (9 - place) = omega arith in
    sym c.1 ∙ rw e refl
continues_end bytes place value (b ∷ rest) empty lt c = absurd (omega arith)

pub continues_past : (bytes : List ℕ) (place value : ℕ) (rest : List ℕ) → 10 ≤ place → Continues bytes place value rest → varint_at bytes ≡ Err BadProto
continues_past bytes place value rest le c =
    let e : 10 - place ≡ 0 = omega arith in
    sym c.1 ∙ rw e refl

pub continues_last : (bytes : List ℕ) (place value b : ℕ) (rest after : List ℕ) → rest ≡ b ∷ after → place < 10 → b < 128 → Continues bytes place value rest → varint_at bytes ≡ Ok ((value + b % 128 * 2 ^ (7 * place) % 2 ^ 64) % 2 ^ 64, after)
continues_last bytes place value b rest after front lt small c =
    let e : 10 - place ≡ suc (9 - place) = omega arith in
    let group : b % 128 ≡ b = omega arith in
    let same : b * 2 ^ (7 * place) ≡ 2 ^ (7 * place) * b = omega arith in
    sym c.1 ∙ rw (front, e, lt-ltb b 128 small, group, add-mod-mod value (b * 2 ^ (7 * place)) (2 ^ 64), same) refl

pub continues_more : (bytes : List ℕ) (place value b : ℕ) (rest after : List ℕ) → rest ≡ b ∷ after → place < 10 → 128 ≤ b → Continues bytes place value rest → Continues bytes (place + 1) ((value + b % 128 * 2 ^ (7 * place) % 2 ^ 64) % 2 ^ 64) after
continues_more bytes place value b rest after front lt big c =
    let e : 10 - place ≡ suc (9 - place) = omega arith in
    let f : 10 - (place + 1) ≡ 9 - place = omega arith in
    (omega arith, rw f (step (groups_within (9 - place) after)) ∙ whole e ∙ c.1)
  where
    scale_is : 2 ^ (7 * (place + 1)) ≡ 2 ^ (7 * place) * 128
    scale_is = let s : 7 * (place + 1) ≡ 7 * place + 7 = omega arith in rw s (pow-add 2 (7 * place) 7)

    step : (groups : Result (ℕ × List ℕ) Fault) → with_groups (place + 1) ((value + b % 128 * 2 ^ (7 * place) % 2 ^ 64) % 2 ^ 64) groups ≡ with_groups place value (groups >>= λ high. Ok (b % 128 + 128 * high.0, high.1))
    step (Err fault) = refl
    step (Ok high) = rw (scale_is, carried value (b % 128) (2 ^ (7 * place)) high.0 (2 ^ 64)) refl

    whole : 10 - place ≡ suc (9 - place) → with_groups place value (groups_within (9 - place) after >>= λ high. Ok (b % 128 + 128 * high.0, high.1)) ≡ with_groups place value (groups_within (10 - place) rest)
    whole e = rw (front, e, le-ltb b 128 big) refl
