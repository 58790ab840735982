-- Classes that are one.
use Rattle.std.proofs.Common.{◌≡◌, true, refl, ap}
use Rattle.arrow_types.proofs.SameNumber.{same_number_is, same_number_self}
use Rattle.typed_plan.specs.declared.class.Class.{Class}
use Rattle.typed_plan.specs.declared.class.Class.TheVariants.{Number, Text, Truth, Own, Moment, Clock}
use Rattle.typed_plan.specs.Class.{same_class}

pub same_class_is : (a b : Class) → same_class a b ≡ true → a ≡ b
same_class_is Number Number h = refl
same_class_is Text Text h = refl
same_class_is Truth Truth h = refl
same_class_is (Own one) (Own other) h = ap Own (same_number_is one other h)
same_class_is Moment Moment h = refl
same_class_is Clock Clock h = refl
same_class_is _ _ h = cc

pub same_class_self : (a : Class) → same_class a a ≡ true
same_class_self Number = refl
same_class_self Text = refl
same_class_self Truth = refl
same_class_self (Own kind) = same_number_self kind
same_class_self Moment = refl
same_class_self Clock = refl
