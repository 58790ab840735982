-- Inside: what a scan still has to give, of rows or of groups.
use Rattle.std.specs.Prelude.{◌≡◌, ◌≤◌, ◌<◌, ◌⊎◌, ℕ, ◌+◌, ◌-◌, IsTrue, ◌==◌, List, [], ◌∷◌, length}
use Rattle.std.specs.Prelude.{map, take, drop, get_or, Option, Some, None, option_map, Result, Ok}
use Rattle.std.specs.Prelude.{Err}
use Rattle.std.specs.List.{list_all, range_with_len}
use Rattle.arrays.specs.Batch.{BatchAt}
use Rattle.arrow_types.specs.Answer.{copied_type}
use Rattle.typed_plan.specs.declared.plan.Output.{Output}
use Rattle.typed_plan.specs.declared.plan.Output.TheVariants.{Project, Groups}
use Rattle.typed_plan.specs.Plan.{answered, groups_by}
use Rattle.typed_plan.specs.TypedPlans.{item_type}
use Rattle.table_versions.specs.Table.{Row}
use Rattle.row_sources.specs.Running.{RowsAt, LooksOn}
use Rattle.row_sources.specs.Showing.{shown_of}
use Rattle.row_sources.specs.declared.turn.Patience.{Patience}
use Rattle.row_sources.specs.declared.turn.Turn.{Turn}
use Rattle.row_sources.specs.declared.turn.Turn.TheVariants.{Given, Working, End}
use Rattle.arrow_types.specs.declared.schema.Schema.{Schema}
use Rattle.scan_base.specs.Limits.{most_answer_rows}
use Rattle.scan_base.specs.declared.fault.Fault.{Fault}
use Rattle.scan_base.specs.declared.fault.Fault.TheVariants.{OutOfMemory, ResultTooLarge}
use Rattle.scan_exec.specs.declared.scan_answer.ScanAnswer.{ScanAnswer}
use Rattle.scan_exec.specs.declared.scan_answer.ScanAnswer.TheVariants as answer
pub use Rattle.scan_exec.specs.Giving.{GivingAt, of_rows, GivingOn, IsOfLast, GivesBatch, GivesNone}
pub use Rattle.scan_exec.specs.Giving.{AnswerGivesNoneYet, GivesNext}
use Rattle.scan_exec.specs.Morsels.{of_first}
use Rattle.scan_exec.specs.Scan.{ScanAt}

-- what an answer still has to give
abbrev pub giving_at : ScanAnswer → GivingAt
giving_at (answer.Rows rows) = of_rows rows
giving_at (answer.Groups groups) = groups

-- what was opened is what is first to be opened
abbrev pub IsGiving : ScanAnswer → Type 0
IsGiving (answer.Rows rows) = take (length rows.opened) rows.batches ≡ rows.opened
IsGiving (answer.Groups groups) = take (length groups.opened) groups.batches ≡ groups.opened

-- What the next batch is, where so many rows were given: one more than an answer may have refuses
-- it.
abbrev pub CountsNext : GivingAt → ℕ → Result (Option BatchAt) Fault → GivingAt → ℕ → Type 0
CountsNext before given (Ok (Some batch)) after now =
    GivesBatch before batch after × (now ≡ given + batch.rows) × (now ≤ most_answer_rows)
CountsNext before given (Ok None) after now = GivesNone before after × (now ≡ given)
CountsNext before given (Err fault) after now = GivingOn before after × (now ≤ most_answer_rows)
    × ((fault ≡ OutOfMemory)
    ⊎ ((fault ≡ ResultTooLarge) × (most_answer_rows < given + length before.ahead)))

-- what a turn to the next batch gives, where so many rows were given
abbrev pub CountsTurn : Patience → GivingAt → ℕ → Result (Turn BatchAt) Fault →
    GivingAt → ℕ → Type 0
CountsTurn patience before given (Ok (Given batch)) after now =
    CountsNext before given (Ok (Some batch)) after now
CountsTurn patience before given (Ok Working) after now =
    AnswerGivesNoneYet before after × (now ≡ given) × LooksOn patience before.unseen after.unseen
CountsTurn patience before given (Ok End) after now = CountsNext before given (Ok None) after now
CountsTurn patience before given (Err fault) after now =
    CountsNext before given (Err fault) after now

-- the number that a batch of the first place has in its table, by its number among those that are
-- opened
abbrev pub table_number : List (ℕ × ℕ) → ℕ → ℕ
table_number firsts number = (get_or firsts number (0, 0)).1

-- a row with the number of its batch in its table
abbrev pub renumbered : List (ℕ × ℕ) → Option ℕ × Row → Option ℕ × Row
renumbered firsts row = (option_map (table_number firsts) row.0, row.1)

-- a scan as contracts see it, over the batches that it opens: those of the further places are the
-- first `further` ones
abbrev pub scan_at : Schema → GivingAt → List (ℕ × ℕ) → ℕ → ℕ → Option Fault → ScanAt
scan_at schema giving batches further given refused = record {
  schema = schema;
  types = giving.types;
  ahead = map (renumbered (drop further batches)) giving.ahead;
  batches = batches;
  opened = take (further + length giving.opened) batches;
  given = given;
  refused = refused;
  unseen = giving.unseen;
}

-- numbers rise, from this one on
abbrev pub Rise : ℕ → List ℕ → Type 0
Rise low [] = Unit {0}
Rise low (number ∷ numbers) = (low ≤ number) × Rise (number + 1) numbers

-- What holds of a scan: its list of batches ends with those of the first place, which are all
-- opened in turn, by the order of their numbers. No more rows were given than may be.
pub record IsScan (giving : GivingAt) (batches : List (ℕ × ℕ)) (further given : ℕ) : Type 0 where
  pub there : further ≤ length batches
  pub first : giving.batches ≡ range_with_len 0 (length batches - further)
  pub places : IsTrue (list_all (λ (batch : ℕ × ℕ). batch.0 == 0) (drop further batches))
  pub others : of_first batches ≡ drop further batches
  pub rising : Rise 0 (map (λ (batch : ℕ × ℕ). batch.1) (drop further batches))
  pub front : take (length giving.opened) giving.batches ≡ giving.opened
  pub few : given ≤ most_answer_rows

-- What a result takes of rows: columns of them, or the items of their groups by first appearance.
abbrev pub answer_for : Output → RowsAt → GivingAt
answer_for (Project columns) rows = of_rows (shown_of columns rows)
answer_for (Groups keys items) rows = record {
  types = map copied_type (map (item_type keys rows.types) items);
  ahead = map (λ group. (None, map (answered group) items))
      (groups_by keys (map (λ (row : ℕ × Row). row.1) rows.ahead));
  batches = rows.batches;
  opened = rows.opened;
  unseen = 0;
}
