-- Inside: what a hash takes of the values of keys, and when two are the same.
use Rattle.std.specs.Prelude.{◌≡◌, ℕ, Bool, true, false, List, ◌++◌}
use Rattle.std.specs.Hash as fed
use Rattle.std.proofs.Common.{refl, sym, ap}
use Rattle.std.proofs.lemmas.Bool.Decides.{Decides-int_eq}
use Rattle.std.proofs.lemmas.Slice.Eq.{bytes_eq-Decides}
use Rattle.scan_base.specs.declared.value.Value.{Value}
use Rattle.scan_base.specs.declared.value.Value.TheVariants.{Null, Bool as Flag, Int, Text}
use Rattle.scan_base.specs.Value.{same_flag}
use Rattle.typed_plan.specs.GroupedRows.{same_value}

-- what a hash takes of a value: first a byte that tells its kind
abbrev pub value_input : Value → List (List ℕ)
value_input Null = fed.u8 0
value_input (Flag flag) = fed.u8 1 ++ fed.bool flag
value_input (Int number) = fed.u8 2 ++ fed.i128 number
value_input (Text bytes) = fed.u8 3 ++ fed.str bytes

flag_sound : (a b : Bool) → same_flag a b ≡ true → a ≡ b
flag_sound true b h = sym h
flag_sound false false h = refl
flag_sound false true h = cc

pub value_sound : (a b : Value) → same_value a b ≡ true → a ≡ b
value_sound Null Null h = refl
value_sound (Flag a) (Flag b) h = ap Flag (flag_sound a b h)
value_sound (Int a) (Int b) h = ap Int ((Decides-int_eq a b).0 h)
value_sound (Text a) (Text b) h = ap Text ((bytes_eq-Decides a b).0 h)
value_sound _ _ h = cc

flag_self : (a : Bool) → same_flag a a ≡ true
flag_self true = refl
flag_self false = refl

pub value_self : (a : Value) → same_value a a ≡ true
value_self Null = refl
value_self (Flag a) = flag_self a
value_self (Int a) = (Decides-int_eq a a).1 refl
value_self (Text a) = (bytes_eq-Decides a a).1 refl

pub either_way : (a b : Bool) → (a ≡ true → b ≡ true) → (b ≡ true → a ≡ true) → a ≡ b
either_way true b f g = sym (f refl)
either_way false true f g = g refl
either_way false false f g = refl
