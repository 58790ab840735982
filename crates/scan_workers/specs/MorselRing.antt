-- Inside: where the morsels are that were begun.
use Rattle.std.specs.Prelude.{◌≡◌, ◌⊎◌, ℕ, ◌+◌, ◌%◌, ◌<◌, ◌≤◌, List, length, map, replicate, Option}
use Rattle.std.specs.Prelude.{Some, None, Result, Ok, Err, slice_index_or, slice_set}
use Rattle.std.specs.Option.{option_map}
use Rattle.scan_workers.specs.declared.morsel_answer.Task.{Task}
use Rattle.scan_workers.specs.declared.morsel_answer.Task.TheVariants.{Begin, Make}
use Rattle.scan_workers.specs.declared.morsel_answer.Interim.{Interim}
use Rattle.scan_workers.specs.declared.morsel_answer.Interim.TheVariants as meanwhile

-- How many morsels there are; with how many answers the reader is done, and how many it was given;
-- how many morsels were begun; and of each slot the number of the morsel that lies there.
pub record RingAt : Type 0 where
  pub count : ℕ
  pub read : ℕ
  pub given : ℕ
  pub begun : ℕ
  pub slots : List (Option ℕ)

-- the same, where what lies in a slot has a number
abbrev pub ring_at : {T : Type 0} → (T → ℕ) → ℕ → ℕ → ℕ → ℕ → List (Option T) → RingAt
ring_at number count read given begun slots = record {
  count = count;
  read = read;
  given = given;
  begun = begun;
  slots = map (option_map number) slots;
}

-- what lies in the slot of a number
abbrev pub in_slot : RingAt → ℕ → Option ℕ
in_slot held number = slice_index_or held.slots (number % length held.slots) None

-- a morsel lies in its own slot
abbrev pub Lies : RingAt → ℕ → Type 0
Lies held number = in_slot held number ≡ Some number

-- a thread has a morsel in hand: it was begun and not given to the reader, and its slot is empty
abbrev pub IsInHand : RingAt → ℕ → Type 0
IsInHand held number = (held.given ≤ number) × (number < held.begun) × (in_slot held number ≡ None)

-- Each number below the count that was begun was given to the reader, or lies in its own slot, or
-- is in a thread's hand. What lies in a slot lies there alone, and was not given. No more morsels
-- are begun than there are slots for those with which the reader is not done.
pub record IsRing (held : RingAt) : Type 0 where
  pub each : (number : ℕ) → number < held.begun →
      (number < held.given) ⊎ (Lies held number ⊎ IsInHand held number)
  pub alone : (place number : ℕ) → slice_index_or held.slots place None ≡ Some number →
      (place ≡ number % length held.slots) × (held.given ≤ number) × (number < held.begun)
  pub room : held.begun ≤ held.read + length held.slots
  pub done : (held.read ≤ held.given) × (held.given ≤ held.read + 1) × (held.given ≤ held.begun)

-- nothing was begun, of so many morsels, and there are so many slots
abbrev pub at_first : ℕ → ℕ → RingAt
at_first count room =
    record { count = count; read = 0; given = 0; begun = 0; slots = replicate room None }

-- the reader is done with what it was given
abbrev pub asked : RingAt → RingAt
asked held = record held { read = held.given }

-- one more morsel may be begun: there is one, and a slot for it
abbrev pub MayBegin : RingAt → Type 0
MayBegin held = (held.begun < held.count) × (held.begun < held.read + length held.slots)

-- one more is begun
abbrev pub begun_one : RingAt → RingAt
begun_one held = record held { begun = held.begun + 1 }

-- this is what lies in the slot of a number, and all else is as it was
abbrev pub with_slot : RingAt → ℕ → Option ℕ → RingAt
with_slot held number lying =
    record held { slots = slice_set held.slots (number % length held.slots) lying }

-- a morsel was laid into its slot
abbrev pub laid : RingAt → ℕ → RingAt
laid held number = with_slot held number (Some number)

-- it was taken out of its slot
abbrev pub taken : RingAt → ℕ → RingAt
taken held number = with_slot held number None

-- the reader was given the answer for which it asks
abbrev pub given_next : RingAt → RingAt
given_next held = record (taken held held.read) { given = held.read + 1 }

-- What is to be done next, where an answer that is handed out has a number: one more is begun, or
-- more is made of one that lay in its slot. Where there is nothing, all is as it was.
abbrev pub Tasks : {T : Type 0} → (T → ℕ) → RingAt → Option (Task T) → RingAt → Type 0
Tasks number old None new = new ≡ old
Tasks number old (Some Begin) new = MayBegin old × (new ≡ begun_one old)
Tasks number old (Some (Make answered)) new =
    Lies old (number answered) × (new ≡ taken old (number answered))

-- the answer for which the reader asks, or what it does meanwhile, if there is anything
abbrev pub Seeks : {T : Type 0} → (T → ℕ) → RingAt → Option (Result T (Interim T)) →
    RingAt → Type 0
Seeks number old None new = new ≡ old
Seeks number old (Some (Ok answered)) new =
    (number answered ≡ old.read) × Lies old old.read × (new ≡ given_next old)
Seeks number old (Some (Err (meanwhile.Task task))) new = Tasks number old (Some task) new
Seeks number old (Some (Err meanwhile.Turned)) new = new ≡ old
