-- Where the morsels are, step by step.
use Rattle.std.proofs.Common.{◌≡◌, ◌≢◌, ◌⊎◌, inl, inr, ℕ, zero, suc, ◌+◌, ◌*◌, ◌/◌, ◌%◌, ◌<◌, ◌≤◌, List, ◌∷◌, length, map, replicate, slice_index_or, slice_set, Option, Some, None, IsSome, refl, sym, ap, ◌∙◌, subst, arith, mod-lt, mul-suc, mul-le-mul_left}
use Rattle.std.proofs.Math.Nat.{mod-add-div}
use Rattle.std.proofs.lemmas.Bool.{cases_lt, cases_order, false≢true}
use Rattle.std.specs.Option.{option_map}
use Rattle.std.proofs.Math.ListN.{get_or-map}
use Rattle.std.proofs.lemmas.List.{map-set, length-map, get_or-set_same, get_or-set_other, get_or-replicate, get_or_past, get_or_read, length-set, length-replicate}
use Rattle.std.proofs.lemmas.Option.{none-some}
use Rattle.scan_workers.specs.MorselRing.{RingAt, IsRing, Lies, IsInHand, MayBegin, ring_at, in_slot, at_first, begun_one, laid, taken, given_next}

-- the number, or 0 of none
abbrev or_zero : Option ℕ → ℕ
or_zero None = 0
or_zero (Some n) = n

-- two numbers that are less apart than there are slots have two slots
less_apart : (m n size : ℕ) → m % size ≡ n % size → m < n → n < m + size → ⊥
less_apart m n size same less near = by_quotients (cases_order (m / size) (n / size))
  where
    by_quotients : ((m / size) ≡ (n / size)) ⊎ (((m / size) < (n / size)) ⊎ ((n / size) < (m / size))) → ⊥
    by_quotients (inl e) =
        let f : size * (m / size) ≡ size * (n / size) = ap (λ q. size * q) e in
        omega (arith, mod-add-div m size, mod-add-div n size, same, less, f)
    by_quotients (inr (inl lt)) =
        let f : size * suc (m / size) ≤ size * (n / size) = mul-le-mul_left size lt in
        omega (arith, mod-add-div m size, mod-add-div n size, same, near, mul-suc size (m / size), f)
    by_quotients (inr (inr gt)) =
        let f : size * suc (n / size) ≤ size * (m / size) = mul-le-mul_left size gt in
        omega (arith, mod-add-div m size, mod-add-div n size, same, less, mul-suc size (n / size), f)

-- what lies in a slot lies in one of the slots
in_range : (slots : List (Option ℕ)) (place number : ℕ) → slice_index_or slots place None ≡ Some number → place < length slots
in_range slots place number e =
    elim (cases_lt place (length slots)) [
      | inl less ↦ less
      | inr past ↦ absurd (none-some number (sym (get_or_past slots place None past) ∙ e))
    ]

-- what lies in a slot lies there alone, and was not given
abbrev pub Alone : RingAt → Type 0
Alone h = (place number : ℕ) → slice_index_or h.slots place None ≡ Some number → (place ≡ number % length h.slots) × (h.given ≤ number) × (number < h.begun)

-- two numbers that were begun and not given have two slots
same_number : (h : RingAt) (a b : ℕ) → h.begun ≤ h.given + length h.slots → h.given ≤ a → a < h.begun → h.given ≤ b → b < h.begun → a % length h.slots ≡ b % length h.slots → a ≡ b
same_number h a b room a0 a1 b0 b1 same =
    elim (cases_order a b) [
      | inl e ↦ e
      | inr (inl less) ↦ absurd (less_apart a b (length h.slots) same less (omega (arith, room, a0, b1)))
      | inr (inr more) ↦ absurd (less_apart b a (length h.slots) (sym same) more (omega (arith, room, b0, a1)))
    ]

-- each number that was begun has its place
kept : (h : RingAt) → Alone h → h.begun ≤ h.read + length h.slots → (h.read ≤ h.given) × (h.given ≤ h.read + 1) × (h.given ≤ h.begun) → IsRing h
kept h alone room done = record {
  each = λ number below. by_slot number below (in_slot h number) refl;
  alone = alone;
  room = room;
  done = done;
}
  where
    by_slot : (number : ℕ) → number < h.begun → (lying : Option ℕ) → in_slot h number ≡ lying → (number < h.given) ⊎ (Lies h number ⊎ IsInHand h number)
    by_slot number below None e =
        elim (cases_lt number h.given) [ inl less ↦ inl less | inr more ↦ inr (inr (more, below, e)) ]
    by_slot number below (Some other) e =
        let a = alone (number % length h.slots) other e in
        elim (cases_lt number h.given) [
          | inl less ↦ inl less
          | inr more ↦ inr (inl (e ∙ ap (λ n. Some n) (sym (same_number h number other (omega (arith, room, done.0)) more below a.1 a.2 a.0))))
        ]

pub at_first_held : (count room : ℕ) → IsRing (at_first count room)
at_first_held count room =
    kept (at_first count room) (λ place number e. absurd (none-some number (sym (nothing place) ∙ e))) (omega arith) (omega arith, omega arith, omega arith)
  where
    nothing : (place : ℕ) → slice_index_or (at_first count room).slots place None ≡ None
    nothing place =
        elim (cases_lt place room) [
          | inl less ↦ get_or-replicate room place None None less
          | inr past ↦ get_or_past (at_first count room).slots place None (omega (arith, past, length-replicate {A = Option ℕ} room None))
        ]

pub begun_one_held : (h : RingAt) → IsRing h → MayBegin h → IsRing (begun_one h)
begun_one_held h k may =
    kept (begun_one h) (λ place number e. let a = k.alone place number e in (a.0, a.1, omega (arith, a.2))) (omega (arith, may.1)) (k.done.0, k.done.1, omega (arith, k.done.2))

-- what lies in the slots after a change of one
changed : (slots : List (Option ℕ)) (at : ℕ) (what : Option ℕ) (place number : ℕ) → at < length slots → slice_index_or (slice_set slots at what) place None ≡ Some number → ((place ≡ at) × (what ≡ Some number)) ⊎ ((place ≢ at) × (slice_index_or slots place None ≡ Some number))
changed slots at what place number there e = by_order (cases_order place at)
  where
    other : place ≢ at → slice_index_or slots place None ≡ Some number
    other ne = sym (get_or-set_other slots at place what None ne) ∙ e

    by_order : (place ≡ at) ⊎ ((place < at) ⊎ (at < place)) → ((place ≡ at) × (what ≡ Some number)) ⊎ ((place ≢ at) × (slice_index_or slots place None ≡ Some number))
    by_order (inl p) =
        inl (p, sym (get_or-set_same slots at what None there) ∙ subst (λ i. slice_index_or (slice_set slots at what) i None ≡ Some number) p e)
    by_order (inr (inl less)) = let ne : place ≢ at = λ p. omega (arith, less, p) in inr (ne, other ne)
    by_order (inr (inr more)) = let ne : place ≢ at = λ p. omega (arith, more, p) in inr (ne, other ne)

-- the place of a number among as many slots after a change of one
as_many : (slots : List (Option ℕ)) (at : ℕ) (what : Option ℕ) (place number : ℕ) → place ≡ number % length slots → place ≡ number % length (slice_set slots at what)
as_many slots at what place number e = subst (λ size. place ≡ number % size) (sym (length-set slots at what)) e

pub some_slot : (h : RingAt) (n : ℕ) → IsRing h → IsInHand h n → n % length h.slots < length h.slots
some_slot h n k hand = mod-lt n (omega (arith, k.room, k.done.0, hand.0, hand.1))

pub laid_held : (h : RingAt) (n : ℕ) → IsRing h → IsInHand h n → IsRing (laid h n)
laid_held h n k hand =
    kept (laid h n) alone (omega (arith, k.room, length-set h.slots (n % length h.slots) (Some n))) k.done
  where
    by_place : (place number : ℕ) → ((place ≡ n % length h.slots) × (Some n ≡ Some number)) ⊎ ((place ≢ n % length h.slots) × (slice_index_or h.slots place None ≡ Some number)) → (place ≡ number % length h.slots) × (h.given ≤ number) × (number < h.begun)
    by_place place number (inl (p, q)) =
        let same : n ≡ number = ap or_zero q in
        (p ∙ ap (λ m. m % length h.slots) same, subst (λ m. h.given ≤ m) same hand.0, subst (λ m. m < h.begun) same hand.1)
    by_place place number (inr (ne, e)) = k.alone place number e

    alone : Alone (laid h n)
    alone place number e =
        let a = by_place place number (changed h.slots (n % length h.slots) (Some n) place number (some_slot h n k hand) e) in
        (as_many h.slots (n % length h.slots) (Some n) place number a.0, a.1, a.2)

pub taken_held : (h : RingAt) (n : ℕ) → IsRing h → Lies h n → IsRing (taken h n)
taken_held h n k lies =
    kept (taken h n) alone (omega (arith, k.room, length-set h.slots (n % length h.slots) None)) k.done
  where
    by_place : (place number : ℕ) → ((place ≡ n % length h.slots) × (None ≡ Some number)) ⊎ ((place ≢ n % length h.slots) × (slice_index_or h.slots place None ≡ Some number)) → (place ≡ number % length h.slots) × (h.given ≤ number) × (number < h.begun)
    by_place place number (inl (p, q)) = absurd (none-some number q)
    by_place place number (inr (ne, e)) = k.alone place number e

    alone : Alone (taken h n)
    alone place number e =
        let a = by_place place number (changed h.slots (n % length h.slots) None place number (in_range h.slots (n % length h.slots) n lies) e) in
        (as_many h.slots (n % length h.slots) None place number a.0, a.1, a.2)

-- what lies in the slot for which the reader asks is the answer for which it asks
pub lies_next : (h : RingAt) (m : ℕ) → IsRing h → in_slot h h.read ≡ Some m → m ≡ h.read
lies_next h m k e =
    let a = k.alone (h.read % length h.slots) m e in
    elim (cases_order m h.read) [
      | inl p ↦ p
      | inr (inl less) ↦ absurd (omega (arith, less, a.1, k.done.0))
      | inr (inr more) ↦ absurd (less_apart h.read m (length h.slots) a.0 more (omega (arith, a.2, k.room)))
    ]

pub given_next_held : (h : RingAt) → IsRing h → Lies h h.read → IsRing (given_next h)
given_next_held h k lies =
    kept (given_next h) alone (omega (arith, k.room, length-set h.slots (h.read % length h.slots) None)) (omega arith, omega arith, omega (arith, first.2))
  where
    first : (h.read % length h.slots ≡ h.read % length h.slots) × (h.given ≤ h.read) × (h.read < h.begun)
    first = k.alone (h.read % length h.slots) h.read lies

    later : (place number : ℕ) → place ≢ h.read % length h.slots → place ≡ number % length h.slots → h.given ≤ number → h.read + 1 ≤ number
    later place number ne p more =
        elim (cases_order number h.read) [
          | inl e ↦ absurd (ne (p ∙ ap (λ m. m % length h.slots) e))
          | inr (inl less) ↦ absurd (omega (arith, less, more, k.done.0))
          | inr (inr above) ↦ omega (arith, above)
        ]

    by_place : (place number : ℕ) → ((place ≡ h.read % length h.slots) × (None ≡ Some number)) ⊎ ((place ≢ h.read % length h.slots) × (slice_index_or h.slots place None ≡ Some number)) → (place ≡ number % length h.slots) × (h.read + 1 ≤ number) × (number < h.begun)
    by_place place number (inl (p, q)) = absurd (none-some number q)
    by_place place number (inr (ne, e)) = let a = k.alone place number e in (a.0, later place number ne a.0 a.1, a.2)

    alone : Alone (given_next h)
    alone place number e =
        let a = by_place place number (changed h.slots (h.read % length h.slots) None place number (in_range h.slots (h.read % length h.slots) h.read lies) e) in
        (as_many h.slots (h.read % length h.slots) None place number a.0, a.1, a.2)

-- the number of what lies in a slot
pub read_slot : {T : Type 0} (number : T → ℕ) (slots : List (Option T)) (place : ℕ) → slice_index_or (map (option_map number) slots) place None ≡ option_map number (slice_index_or slots place None)
read_slot number slots place = get_or-map (option_map number) slots place None

-- the numbers after a change of one slot
pub changed_slot : {T : Type 0} (number : T → ℕ) (slots : List (Option T)) (place : ℕ) (what : Option T) → map (option_map number) (slice_set slots place what) ≡ slice_set (map (option_map number) slots) place (option_map number what)
changed_slot number slots place what = map-set (option_map number) slots place what

-- so much is begun and given, and this lies in the slots
abbrev at_slots : ℕ → ℕ → ℕ → ℕ → List (Option ℕ) → RingAt
at_slots count read given begun slots = record { count = count; read = read; given = given; begun = begun; slots = slots }

-- empty slots have no numbers
no_numbers : {T : Type 0} (number : T → ℕ) (room : ℕ) → map (option_map number) (replicate room None) ≡ replicate room None
no_numbers number zero = refl
no_numbers number (suc room) = ap (λ (rest : List (Option ℕ)). None ∷ rest) (no_numbers number room)

-- what is held at first
pub first_is : {T : Type 0} (number : T → ℕ) (count room : ℕ) (slots : List (Option T)) → slots ≡ replicate room None → ring_at number count 0 0 0 slots ≡ at_first count room
first_is number count room slots e =
    ap (ring_at number count 0 0 0) e ∙ ap (at_slots count 0 0 0) (no_numbers number room)

pub first_held : {T : Type 0} (number : T → ℕ) (count room : ℕ) (slots : List (Option T)) → slots ≡ replicate room None → IsRing (ring_at number count 0 0 0 slots)
first_held number count room slots e = subst IsRing (sym (first_is number count room slots e)) (at_first_held count room)

-- one more is begun
pub begin_held : {T : Type 0} (number : T → ℕ) (count read given begun : ℕ) (slots : List (Option T)) (old : RingAt) → ring_at number count read given begun slots ≡ old → IsRing (ring_at number count read given begun slots) → MayBegin old → IsRing (ring_at number count read given (begun + 1) slots)
begin_held number count read given begun slots old is k may =
    begun_one_held (ring_at number count read given begun slots) k (subst MayBegin (sym is) may)

-- the slot of a number
own_slot : {T : Type 0} (number : T → ℕ) (n place : ℕ) (slots : List (Option T)) → place ≡ n % length slots → place ≡ n % length (map (option_map number) slots)
own_slot number n place slots p = p ∙ ap (λ (size : ℕ). n % size) (sym (length-map slots (option_map number)))

-- what is laid into the slot of its number
laid_in : {T : Type 0} (number : T → ℕ) (count read given begun : ℕ) (slots : List (Option T)) (place : ℕ) (after : Option T) (what : T) → place ≡ number what % length slots → after ≡ Some what → ring_at number count read given begun (slice_set slots place after) ≡ laid (ring_at number count read given begun slots) (number what)
laid_in {T} number count read given begun slots place after what p e =
    let numbers : List (Option ℕ) = map (option_map number) slots in
    ap (λ (lying : Option T). ring_at number count read given begun (slice_set slots place lying)) e
    ∙ ap (at_slots count read given begun) (changed_slot number slots place (Some what) ∙ ap (λ (at : ℕ). slice_set numbers at (Some (number what))) (own_slot number (number what) place slots p))

pub lay_is : {T : Type 0} (number : T → ℕ) (count read given begun : ℕ) (slots : List (Option T)) (place : ℕ) (after : Option T) (what : T) (old : RingAt) → ring_at number count read given begun slots ≡ old → place ≡ number what % length slots → after ≡ Some what → ring_at number count read given begun (slice_set slots place after) ≡ laid old (number what)
lay_is number count read given begun slots place after what old is p e =
    laid_in number count read given begun slots place after what p e ∙ ap (λ (h : RingAt). laid h (number what)) is

pub lay_held : {T : Type 0} (number : T → ℕ) (count read given begun : ℕ) (slots : List (Option T)) (place : ℕ) (after : Option T) (what : T) (old : RingAt) → ring_at number count read given begun slots ≡ old → IsRing (ring_at number count read given begun slots) → IsInHand old (number what) → place ≡ number what % length slots → after ≡ Some what → IsRing (ring_at number count read given begun (slice_set slots place after))
lay_held number count read given begun slots place after what old is k hand p e =
    let h : RingAt = ring_at number count read given begun slots in
    subst IsRing (sym (laid_in number count read given begun slots place after what p e)) (laid_held h (number what) k (subst (λ (at : RingAt). IsInHand at (number what)) (sym is) hand))

-- what lies in a slot, by what was read there
lies_there : {T : Type 0} (number : T → ℕ) (slots : List (Option T)) (place : ℕ) (slot : Option T) (what : T) → place < length slots → slot ≡ slice_index_or slots place slot → slot ≡ Some what → slice_index_or (map (option_map number) slots) place None ≡ Some (number what)
lies_there number slots place slot what there is e =
    read_slot number slots place ∙ ap (option_map number) (sym (get_or_read slots place slot there is None) ∙ e)

-- what a slot had is taken out of it
taken_out : {T : Type 0} (number : T → ℕ) (count read given begun : ℕ) (slots : List (Option T)) (place : ℕ) (slot after : Option T) (what : T) → IsRing (ring_at number count read given begun slots) → place < length slots → slot ≡ slice_index_or slots place slot → slot ≡ Some what → after ≡ None → Lies (ring_at number count read given begun slots) (number what) × (ring_at number count read given begun (slice_set slots place after) ≡ taken (ring_at number count read given begun slots) (number what))
taken_out {T} number count read given begun slots place slot after what k there is e f =
    let numbers : List (Option ℕ) = map (option_map number) slots in
    let lies : slice_index_or numbers place None ≡ Some (number what) = lies_there number slots place slot what there is e in
    let own : place ≡ number what % length numbers = (k.alone place (number what) lies).0 in (
      subst (λ (at : ℕ). slice_index_or numbers at None ≡ Some (number what)) own lies,
      ap (λ (lying : Option T). ring_at number count read given begun (slice_set slots place lying)) f
          ∙ ap (at_slots count read given begun) (changed_slot number slots place None ∙ ap (λ (at : ℕ). slice_set numbers at None) own),
    )

pub take_is : {T : Type 0} (number : T → ℕ) (count read given begun : ℕ) (slots : List (Option T)) (place : ℕ) (slot after : Option T) (what : T) (old : RingAt) → ring_at number count read given begun slots ≡ old → IsRing (ring_at number count read given begun slots) → place < length slots → slot ≡ slice_index_or slots place slot → slot ≡ Some what → after ≡ None → Lies old (number what) × (ring_at number count read given begun (slice_set slots place after) ≡ taken old (number what))
take_is number count read given begun slots place slot after what old is k there read_is e f =
    subst (λ (h : RingAt). Lies h (number what) × (ring_at number count read given begun (slice_set slots place after) ≡ taken h (number what))) is
    (taken_out number count read given begun slots place slot after what k there read_is e f)

pub take_held : {T : Type 0} (number : T → ℕ) (count read given begun : ℕ) (slots : List (Option T)) (place : ℕ) (slot after : Option T) (what : T) → IsRing (ring_at number count read given begun slots) → place < length slots → slot ≡ slice_index_or slots place slot → slot ≡ Some what → after ≡ None → IsRing (ring_at number count read given begun (slice_set slots place after))
take_held number count read given begun slots place slot after what k there read_is e f =
    let t = taken_out number count read given begun slots place slot after what k there read_is e f in
    subst IsRing (sym t.1) (taken_held (ring_at number count read given begun slots) (number what) k t.0)

-- what the slot had for which the reader asks is given to it
given_out : {T : Type 0} (number : T → ℕ) (count read given begun : ℕ) (slots : List (Option T)) (place : ℕ) (slot after : Option T) (what : T) → IsRing (ring_at number count read given begun slots) → place < length slots → slot ≡ slice_index_or slots place slot → slot ≡ Some what → after ≡ None → place ≡ read % length slots → (number what ≡ read) × Lies (ring_at number count read given begun slots) read × (ring_at number count read (read + 1) begun (slice_set slots place after) ≡ given_next (ring_at number count read given begun slots))
given_out {T} number count read given begun slots place slot after what k there is e f p =
    let numbers : List (Option ℕ) = map (option_map number) slots in
    let own : place ≡ read % length numbers = own_slot number read place slots p in
    let lies : slice_index_or numbers (read % length numbers) None ≡ Some (number what) =
    subst (λ (at : ℕ). slice_index_or numbers at None ≡ Some (number what)) own (lies_there number slots place slot what there is e) in
    let same : number what ≡ read = lies_next (ring_at number count read given begun slots) (number what) k lies in (
      same,
      lies ∙ ap (λ (n : ℕ). Some n) same,
      ap (λ (lying : Option T). ring_at number count read (read + 1) begun (slice_set slots place lying)) f
          ∙ ap (at_slots count read (read + 1) begun) (changed_slot number slots place None ∙ ap (λ (at : ℕ). slice_set numbers at None) own),
    )

pub give_is : {T : Type 0} (number : T → ℕ) (count read given begun : ℕ) (slots : List (Option T)) (place : ℕ) (slot after : Option T) (what : T) (old : RingAt) → ring_at number count read given begun slots ≡ old → IsRing (ring_at number count read given begun slots) → place < length slots → slot ≡ slice_index_or slots place slot → slot ≡ Some what → after ≡ None → place ≡ read % length slots → (number what ≡ old.read) × Lies old old.read × (ring_at number count read (read + 1) begun (slice_set slots place after) ≡ given_next old)
give_is number count read given begun slots place slot after what old is k there read_is e f p =
    subst (λ (h : RingAt). (number what ≡ h.read) × Lies h h.read × (ring_at number count read (read + 1) begun (slice_set slots place after) ≡ given_next h)) is
    (given_out number count read given begun slots place slot after what k there read_is e f p)

pub give_held : {T : Type 0} (number : T → ℕ) (count read given begun : ℕ) (slots : List (Option T)) (place : ℕ) (slot after : Option T) (what : T) → IsRing (ring_at number count read given begun slots) → place < length slots → slot ≡ slice_index_or slots place slot → slot ≡ Some what → after ≡ None → place ≡ read % length slots → IsRing (ring_at number count read (read + 1) begun (slice_set slots place after))
give_held number count read given begun slots place slot after what k there read_is e f p =
    let t = given_out number count read given begun slots place slot after what k there read_is e f p in
    subst IsRing (sym t.2) (given_next_held (ring_at number count read given begun slots) k t.1)

-- what the reader is given was begun
pub was_begun : {T : Type 0} (number : T → ℕ) (count read given begun : ℕ) (slots : List (Option T)) (place : ℕ) (slot : Option T) → IsRing (ring_at number count read given begun slots) → place < length slots → slot ≡ slice_index_or slots place slot → IsSome slot → place ≡ read % length slots → read < begun
was_begun number count read given begun slots place None k there is some p = absurd (false≢true some)
was_begun number count read given begun slots place (Some what) k there is some p =
    let t = given_out number count read given begun slots place (Some what) None what k there is refl refl p in
    (k.alone (read % length (map (option_map number) slots)) read t.1).2
