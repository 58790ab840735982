-- Inside: what the code makes of two bits.
use Rattle.std.specs.Prelude.{Bool, not, ◌&&◌, ◌||◌}
use Rattle.bitmap.specs.declared.words.Operation.{Operation}
use Rattle.bitmap.specs.declared.words.Operation.TheVariants.{And, Or, AndNot}

-- what two bits make
abbrev pub joined : Operation → Bool → Bool → Bool
joined And a b = a && b
joined Or a b = a || b
joined AndNot a b = a && not b
