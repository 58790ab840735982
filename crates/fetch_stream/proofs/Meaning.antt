-- What a handle means: none where it is refused, and the rows of its plan.
use Rattle.std.proofs.Common.{◌≡◌, ◌≢◌, ◌≤◌, ◌<◌, ◌-◌, ℕ, Bool, true, false, List, length, map, Ok, Err, refl, sym, ap, subst, ◌∙◌, arith, ◌⊎◌, inl, inr}
use Rattle.scan_base.specs.declared.fault.Fault.{Fault}
use Rattle.scan_base.specs.declared.fault.Fault.TheVariants.{OutOfMemory}
use Rattle.arrow_types.specs.declared.schema.Schema.{Schema}
use Rattle.sql_text.specs.Standard.{Lexeme}
use Rattle.number_words.specs.LiteralWords.{worded_tokens_in as tokens_in}
use Rattle.sql_query.specs.Sentence.{Sentence}
use Rattle.sql_parse.specs.Parse.{Refuses, Parsed}
use Rattle.sql_parse.specs.Tokens.{mark_of}
use Rattle.sql_parse.proofs.OneAnswer.{not_both}
use Rattle.table_versions.specs.Table.{Row, Table}
use Rattle.table_versions.specs.Database.{Database}
use Rattle.query_binder.specs.NameRules.{fault_of}
use Rattle.typed_plan.specs.Plan.{PlanAt, plan_rows}
use Rattle.flight_proto.specs.InfoCommand.{rows_of}
use Rattle.flight_info.specs.QueryMeaning.{IsRange, Meant, Misses, first_rows, result_over}
use Rattle.flight_info.specs.QueryPlan.{IsPlanned}
use Rattle.flight_info.proofs.Meaning.{Says, same_ok, one_sentence}

-- ---- what refuses a text

-- a text that is refused says no sentence
refused_says_none : (text : List ℕ) (fault : Fault) (s : Sentence) → fault ≢ OutOfMemory → Parsed {X = Sentence} (λ s. s) text (Err fault) → Says text s → ⊥
refused_says_none text fault s other parsed says = by (parsed other)
  where
    by : (tokens_in text ≡ Err fault) ⊎ ((lexemes : List Lexeme) × (tokens_in text ≡ Ok lexemes) × Refuses (map mark_of lexemes) (length text) fault) → ⊥
    by (inl e) = let both = sym says.1 ∙ e in cc
    by (inr q) =
        let same : says.0 ≡ q.0 = same_ok (tokens_in text) says.0 q.0 says.1 q.1 in
        not_both (map mark_of says.0) (length text) s fault says.2 (rw (← same) at q.2)

-- a text that is refused by the rules of parsing and binding means nothing
pub misses_mean_nothing : (database : Database) (from to : ℕ) (text : List ℕ) (fault : Fault) → fault ≢ OutOfMemory → Misses database (rows_of text) fault
    → (answer : Table) → Meant database from to text answer → ⊥
misses_mean_nothing database from to text fault other (inl parsed) answer meant = refused_says_none text fault meant.query other parsed meant.asks.says
misses_mean_nothing database from to text fault other (inr q) answer meant =
    let same = one_sentence text meant.query q.0 meant.asks.says q.1 in
    let both = sym meant.asks.bound ∙ ap (λ (s : Sentence). fault_of s database) same ∙ q.2 in cc

-- nor does one over a range that its first place does not have
pub out_of_range : (database : Database) (from to rows : ℕ) (grouped : Bool) (text : List ℕ) (plan : PlanAt) → IsPlanned database text plan rows grouped
    → rows < to → (answer : Table) → Meant database from to text answer → ⊥
out_of_range database from to rows grouped text plan is high answer meant =
    let same = one_sentence text meant.query is.query meant.asks.says is.asks.says in
    let within : to ≤ first_rows database is.query = rw same at meant.range.within in
    omega (arith, high, within, is.counted)

-- nor one that is grouped, over less than all
pub part_of_groups : (database : Database) (from to rows least : ℕ) (grouped : Bool) (text : List ℕ) (plan : PlanAt) → IsPlanned database text plan rows grouped
    → (grouped ≡ true → least ≡ rows) → (grouped ≡ false → least ≡ 0) → to - from < least → (answer : Table) → Meant database from to text answer → ⊥
part_of_groups database from to rows least false text plan is all none few answer meant = omega (arith, few, none refl)
part_of_groups database from to rows least true text plan is all none few answer meant =
    let same = one_sentence text meant.query is.query meant.asks.says is.asks.says in
    let range : IsRange database is.query from to = subst (λ (query : Sentence). IsRange database query from to) same meant.range in
    let whole = range.whole (sym is.groups) in
    omega (arith, few, all refl, whole.0, whole.1, is.counted)

-- the answer of a plan over a range
abbrev pub plan_answer : PlanAt → Database → ℕ → ℕ → Table
plan_answer plan database from to = record { schema = plan.schema; rows = plan_rows plan database from to }

same_table : (one other : Table) → one.schema ≡ other.schema → one.rows ≡ other.rows → one ≡ other
same_table one other a b =
    ap (λ (schema : Schema). table schema one.rows) a ∙ ap (λ (rows : List Row). table other.schema rows) b
  where
    table : Schema → List Row → Table
    table schema rows = record { schema = schema; rows = rows }

-- a range within the rows, and of a query that is grouped all of them
pub range_is : (database : Database) (from to rows : ℕ) (grouped : Bool) (text : List ℕ) (plan : PlanAt) (is : IsPlanned database text plan rows grouped) → from ≤ to → to ≤ rows
    → (grouped ≡ true → rows ≤ to - from) → IsRange database is.query from to
range_is database from to rows grouped text plan is ordered within whole = record {
  ordered = ordered;
  within = omega (arith, within, is.counted);
  whole = λ groups. (let all = whole (is.groups ∙ groups) in (omega (arith, all, within, ordered), omega (arith, all, within, ordered, is.counted)));
}

pub meant : (database : Database) (from to rows : ℕ) (grouped : Bool) (text : List ℕ) (plan : PlanAt) (is : IsPlanned database text plan rows grouped) → IsRange database is.query from to
    → Meant database from to text (plan_answer plan database from to)
meant database from to rows grouped text plan is range = record {
  query = is.query;
  asks = is.asks;
  range = range;
  is = same_table (plan_answer plan database from to) (result_over is.query database from to) is.of.schema (is.of.means from to);
}
