-- What a text says, and what is planned of it.
use Rattle.std.proofs.Common.{◌≡◌, ◌≤◌, ℕ, Bool, get_or, List, [], ◌∷◌, map, Option, Some, None, Result, Ok, sym, ap, ◌∙◌}
use Rattle.std.specs.Prelude.{IfSome}
use Rattle.std.proofs.lemmas.List.Elements.{All-weaker}
use Rattle.scan_base.specs.declared.fault.Fault.{Fault}
use Rattle.scan_base.specs.Limits.{most_rows}
use Rattle.arrow_types.specs.Schema.{IsSchema}
use Rattle.number_words.specs.LiteralWords.{worded_tokens_in as tokens_in}
use Rattle.sql_query.specs.declared.query.SelectItem.{SelectItem}
use Rattle.sql_query.specs.declared.query.Select.{Select}
use Rattle.sql_query.specs.declared.query.Select.TheVariants as select
use Rattle.sql_query.specs.declared.query.Place.{Place}
use Rattle.sql_query.specs.declared.query.Query.{Query as ParsedQuery}
use Rattle.sql_query.specs.Names.{IsName as IsQueryName, ItemHasNames, SelectHasNames}
use Rattle.sql_query.specs.Sentence.{Sentence, sentence_of, is_grouped}
use Rattle.sql_parse.specs.Parse.{Parsed}
use Rattle.sql_parse.specs.Tokens.{mark_of}
use Rattle.sql_parse.proofs.Printed.{sentence_of_shallow}
use Rattle.table_versions.specs.Table.{Name}
use Rattle.table_versions.specs.Database.{Database, table_at}
use Rattle.table_versions.specs.StoredTables.{CatalogAt, TableAt, plain, tables_of}
use Rattle.table_versions.proofs.Stores.{table_at-tables_of}
use Rattle.query_binder.specs.Binding.{IsPlanOf}
use Rattle.query_binder.specs.NameRules.{fault_of}
use Rattle.typed_plan.specs.JoinedRows.{place_rows, rows_in}
use Rattle.query_binder.specs.Aliases.{IsNameIfThere, HasNames}
use Rattle.typed_plan.specs.Plan.{PlanAt}
use Rattle.flight_info.specs.QueryMeaning.{first_rows}
use Rattle.flight_info.specs.QueryPlan.{IsPlanned}

-- a text says the sentence
abbrev pub Says : List ℕ → Sentence → Type 0
Says text sentence = Parsed (λ (s : Sentence). s) text (Ok sentence)

pub same_ok : {X : Type 0} (result : Result X Fault) (a b : X) → result ≡ Ok a → result ≡ Ok b → a ≡ b
same_ok result a b e f = let both = sym e ∙ f in cc

-- a text says at most one sentence
pub one_sentence : (text : List ℕ) (s other : Sentence) → Says text s → Says text other → s ≡ other
one_sentence text s other a b =
    let same : a.0 ≡ b.0 = same_ok (tokens_in text) a.0 b.0 a.1 b.1 in
    let shallow = rw (← same) at b.2.shallow in
    sym (a.2.only other (sentence_of_shallow (map mark_of a.0) other shallow))

-- ---- what is planned

pub planned : (database : Database) (text : List ℕ) (query : ParsedQuery) (plan : PlanAt) (rows : ℕ) (grouped : Bool) → Parsed sentence_of text (Ok query)
    → fault_of (sentence_of query) database ≡ None → IsPlanOf (sentence_of query) database plan → rows ≡ first_rows database (sentence_of query) → rows ≤ most_rows
    → grouped ≡ is_grouped (sentence_of query) → IsSchema plan.schema → IsPlanned database text plan rows grouped
planned database text query plan rows grouped says bound of counted few groups schema = record {
  query = sentence_of query;
  asks = record { says = says; bound = bound };
  of = of;
  counted = counted;
  few = few;
  groups = groups;
  schema = schema;
}

-- the names of a query that was parsed are names
alias_is : (alias : Option Name) → IfSome alias IsQueryName → IsNameIfThere alias
alias_is None named = tt
alias_is (Some name) named = record { some = named.some; few = named.few; utf8 = named.utf8 }

pub names_are : (chosen : Select) → SelectHasNames chosen → HasNames chosen
names_are select.All named = tt
names_are (select.List items) named =
    (named.0, All-weaker ItemHasNames (λ (item : SelectItem). IsNameIfThere item.alias) (λ item has. alias_is item.alias has.alias) items named.1)

-- ---- the first place

-- the first table that a plan holds is the one of the first place
pub first_held : (catalog : CatalogAt) (name : Name) (names all : List Name) (tables : List TableAt) → map (table_at catalog) all ≡ map (λ (table : TableAt). Some table) tables
    → all ≡ name ∷ names → (table : TableAt) → table ≡ get_or tables 0 table → table_at catalog name ≡ Some table
first_held catalog name names all [] held is table there =
    let both : table_at catalog name ∷ map (table_at catalog) names ≡ [] = ap (map (table_at catalog)) (sym is) ∙ held in cc
first_held catalog name names all (first ∷ rest) held is table there =
    let both : table_at catalog name ∷ map (table_at catalog) names ≡ Some first ∷ map (λ (table : TableAt). Some table) rest = ap (map (table_at catalog)) (sym is) ∙ held in
    let same : table ≡ first = there in
    cc

pub place_is : (catalog : CatalogAt) (place : Place) (found : Option TableAt) → table_at catalog place.table ≡ found → place_rows (tables_of catalog) place ≡ rows_in (plain found)
place_is catalog place found e = ap rows_in (table_at-tables_of catalog place.table ∙ ap plain e)
