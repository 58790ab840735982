-- What reading the grammar tells.
use Rattle.std.proofs.Common.{◌≡◌, ℕ, true, false, cond, List, ◌∷◌, [], Some}
use Rattle.grammar.specs.Rule.{Spells, Nested, Any, many}
use Rattle.grammar.specs.Reading.{reads, read, Read, made, followed, begins, starts, nullable}
use Rattle.grammar.proofs.Determined.{wholly, well_made}
use Rattle.grammar.proofs.Telling.{Tells}
use Rattle.grammar.proofs.Exact.{exact, law_of, solid_rule}
use Rattle.grammar.proofs.Laws.{step}
use Rattle.sql_parse.specs.Tokens.{Mark}
use Rattle.sql_parse.proofs.EveryKind.{kinds}
use Rattle.sql_parse.specs.PredicateProductions.{begins_factor}
use Rattle.sql_parse.specs.Clauses.{query}
use Rattle.sql_parse.specs.Notation.{Of}
use Rattle.sql_parse.proofs.EveryKind.{follows_factor}
use Rattle.sql_parse.specs.FactoredGrammar.{factor_by_operand}
use Rattle.sql_parse.proofs.Everywhere.{covered, apart}
use Rattle.sql_parse.proofs.Conditions.{one_way, made_well, guarded, filled, begins_so, query_made_well, query_one_way}

pub told : (d : ℕ) (ts : List Mark) →
    Tells (Spells (Nested factor_by_operand d) query) (Spells (Any factor_by_operand) query) ts
    (wholly (reads (Some (read factor_by_operand d)) query ts))
told d ts = exact kinds factor_by_operand begins_factor follows_factor covered apart made_well guarded filled begins_so one_way
    query query_made_well query_one_way d ts

-- what is repeated is read one by one
pub one_more : {A : Type 0} (g : Of A) → well_made g ≡ true → nullable g ≡ false → (d : ℕ) (ts : List Mark) →
    reads (Some (read factor_by_operand d)) (many g) ts ≡ cond (begins (starts g) ts)
    (made (λ (x : A × List A). x.0 ∷ x.1)
    (followed (reads (Some (read factor_by_operand d)) g) (reads (Some (read factor_by_operand d)) (many g))) ts) (Read [] ts)
one_more g w n d ts =
    step (starts g) (reads (Some (read factor_by_operand d)) g) (Spells (Nested factor_by_operand d) g) (Spells (Any factor_by_operand) g)
    (law_of kinds factor_by_operand begins_factor follows_factor covered apart made_well guarded filled begins_so one_way g d w)
    (solid_rule kinds factor_by_operand begins_factor follows_factor covered apart made_well guarded filled begins_so one_way g d
    n) ts
