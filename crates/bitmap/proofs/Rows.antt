-- Worked rows: the definitions, tried on bytes whose bits were worked out by hand.
use Rattle.std.proofs.Common.{◌≡◌, ◌-◌, List, Bool, true, false, [], ◌∷◌, take, drop, count_by, refl}
use Rattle.bitmap.specs.Bits.{bits_of}

-- `FB 01` and `FB FD`: of ten bits, those at 2 and 9 are 0
abbrev ten : List Bool
ten = true ∷ true ∷ false ∷ true ∷ true ∷ true ∷ true ∷ true ∷ true ∷ false ∷ []

zeros_behind : bits_of (0xFB ∷ 0x01 ∷ []) 0 10 ≡ ten
unfolding bits_of
zeros_behind = refl

ones_behind : bits_of (0xFB ∷ 0xFD ∷ []) 0 10 ≡ ten
unfolding bits_of
ones_behind = refl

-- the bits from 2 up to 10 are those of the bytes from bit 2 on; six of the eight are 1
part : bits_of (0xFB ∷ 0xFD ∷ []) 2 8 ≡ take (10 - 2) (drop 2 ten)
unfolding bits_of
part = refl

six : count_by (λ (bit : Bool). bit) (take (10 - 2) (drop 2 ten)) ≡ 6
six = refl
