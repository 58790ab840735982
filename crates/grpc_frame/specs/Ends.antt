-- What the calls of an end of a connection do.
use Rattle.std.specs.Prelude.{◌≡◌, ℕ, ◌+◌, ◌<◌, List, [], ◌++◌, length, take, Option, Result}
use Rattle.std.specs.Prelude.{MatchResult}
use Rattle.std.specs.Io.KnownBytes.{Appends, Consumes, IsAtEnd}
use Rattle.scan_base.specs.declared.fault.Fault.{Fault}
use Rattle.scan_base.specs.declared.fault.Fault.TheVariants.{Transport}

-- one more call may fail: its failure can be counted
abbrev pub CanFail : ℕ → Type 0
CanFail failures = failures < 18446744073709551615

-- a call that failed is counted, and no other
abbrev pub CountsFailure : {A E : Type 0} → Result A E → ℕ → ℕ → Type 0
CountsFailure result old new = MatchResult result (λ _. new ≡ old) (λ _. new ≡ old + 1)

-- the only fault is a failed transport
abbrev pub FailsByTransport : {A : Type 0} → Result A Fault → Type 0
FailsByTransport result = MatchResult result (λ _. Unit {0}) (λ fault. fault ≡ Transport)

-- a read that gave bytes leaves fewer turns
abbrev pub TakesTurn : {E : Type 0} → Result ℕ E → ℕ → ℕ → Type 0
TakesTurn result old new = MatchResult result (λ count. 0 < count → new < old) (λ _. Unit {0})

-- ---- what is read

-- The tape of a reader: the bytes that its reads gave so far, in order, and those that they will
-- give from here on, where these are known.
pub record Tape : Type 0 where
  pub given : List ℕ
  pub left : Option (List ℕ)

-- the tape with these, in that order
abbrev pub tape_of : List ℕ → Option (List ℕ) → Tape
tape_of given left = record { given = given; left = left }

-- reads gave these bytes, and no others: where it was known what they will give, these stood in
-- front of it
pub record Advances (old new : Tape) (bytes : List ℕ) : Type 0 where
  pub gave : new.given ≡ old.given ++ bytes
  pub took : Consumes old.left new.left bytes

-- One read gave so many bytes, to the front of the piece: none only at the end or with no room. One
-- that failed gave none.
abbrev pub ReadAdvances : {E : Type 0} → Result ℕ E → Tape → Tape → List ℕ → Type 0
ReadAdvances result old new piece = MatchResult result
    (λ count. Advances old new (take count piece)
    × (count ≡ 0 → 0 < length piece → IsAtEnd new.left))
    (λ _. Advances old new [])

-- ---- what is written

-- known bytes grow by a beginning of these
pub record AppendsBeginning (old new : Option (List ℕ)) (bytes : List ℕ) : Type 0 where
  pub front : List ℕ
  pub rest : List ℕ
  pub splits : bytes ≡ front ++ rest
  pub wrote : Appends old new front

-- known bytes grow by just what these did
abbrev pub GrowsAlike : Option (List ℕ) → Option (List ℕ) → List ℕ → List ℕ → Type 0
GrowsAlike old new bytes bytes' = (more : List ℕ) × Appends old new more × (bytes' ≡ bytes ++ more)

-- a write put all the bytes after the known ones, or a beginning of them where it failed
abbrev pub Writes : {A E : Type 0} → Result A E → Option (List ℕ) → Option (List ℕ) →
    List ℕ → Type 0
Writes result old new bytes =
    MatchResult result (λ _. Appends old new bytes) (λ _. AppendsBeginning old new bytes)
