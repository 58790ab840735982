-- Truth values taken apart.
use Rattle.std.proofs.Common.{◌≡◌, Bool, true, false, cond, ◌&&◌, ◌||◌, not, Option, Some, None, refl}
use Rattle.std.specs.Prelude.{is_some}

pub and-left : (a b : Bool) → (a && b) ≡ true → a ≡ true
and-left true b e = refl
and-left false b e = cc

pub and-right : (a b : Bool) → (a && b) ≡ true → b ≡ true
and-right true b e = e
and-right false b e = cc

pub not-true : (a : Bool) → not a ≡ true → a ≡ false
not-true true e = cc
not-true false e = refl

pub or-inl : (a b : Bool) → a ≡ true → (a || b) ≡ true
or-inl true b e = refl
or-inl false b e = cc

pub or-inr : (a b : Bool) → b ≡ true → (a || b) ≡ true
or-inr true b e = refl
or-inr false b e = e

pub or-left : (a b : Bool) → (a || b) ≡ false → a ≡ false
or-left true b e = cc
or-left false b e = refl

pub or-right : (a b : Bool) → (a || b) ≡ false → b ≡ false
or-right true b e = cc
or-right false b e = e

pub and-both : (a b : Bool) → a ≡ true → b ≡ true → (a && b) ≡ true
and-both true b e f = f
and-both false b e f = cc

-- a condition that holds, or where both parts do
pub or-and-left : (s a b : Bool) → (s || (a && b)) ≡ true → (s || a) ≡ true
or-and-left true a b e = refl
or-and-left false a b e = and-left a b e

pub or-and-right : (s a b : Bool) → (s || (a && b)) ≡ true → (s || b) ≡ true
or-and-right true a b e = refl
or-and-right false a b e = and-right a b e

pub if_null : (n a b : Bool) → n ≡ true → b ≡ true → cond n (a || b) a ≡ true
if_null true a b e f = or-inr a b f
if_null false a b e f = cc

pub if_first : (n a b : Bool) → a ≡ true → cond n (a || b) a ≡ true
if_first true a b e = or-inl a b e
if_first false a b e = e

pub some_of : {A : Type 0} (o : Option A) → is_some o ≡ true → (v : A) × (o ≡ Some v)
some_of None e = cc
some_of (Some v) e = (v, refl)
