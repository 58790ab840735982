-- What reading the tokens to their end tells, by how the code says it.
use Rattle.std.specs.Prelude.{◌≡◌, List, length, Result, Ok, Err}
use Rattle.grammar.specs.Sentence.{Offends}
use Rattle.grammar.proofs.Telling.{Exceeds}
use Rattle.sql_parse.specs.declared.refusal.Refusal.{Refusal}
use Rattle.sql_parse.specs.declared.refusal.Refusal.TheVariants as refusal
use Rattle.sql_query.specs.Sentence.{Sentence}
use Rattle.sql_parse.specs.Tokens.{Mark}
use Rattle.sql_parse.specs.Parse.{IsSentence, IsShallow}

abbrev pub Told : {X : Type 0} → (X → Sentence) → List Mark → Result X Refusal → Type 0
Told view ts (Ok x) = IsShallow ts (view x) × ((other : Sentence) → IsSentence ts other → other ≡ view x)
Told view ts (Err (refusal.Offends left)) =
    (place : List Mark) × (length place ≡ left) × Offends IsShallow IsSentence ts place
Told view ts (Err refusal.TooDeep) = Exceeds IsShallow IsSentence ts
Told view ts (Err refusal.OutOfMemory) = Unit {0}
