-- What is kept of an answer is what it was.
use Rattle.std.proofs.Common.{◌≡◌, ℕ, Bool, List, length, Option, refl}
use Rattle.std.specs.Coded.{Coded-set, coded_ℕ, coded_bool, coded_list, coded_option}
use Rattle.std.proofs.Math.Logic.{∥∥₁_elim}
use Rattle.arrow_types.specs.declared.schema.Schema.{Schema}
use Rattle.arrow_types.specs.contracts.schema.Schema as schema
use Rattle.scan_base.specs.declared.fault.Fault.{Fault}
use Rattle.scan_base.specs.contracts.fault.Fault as fault
use Rattle.scan_base.specs.contracts.value.Value as value
use Rattle.table_versions.specs.Table.{Row}
use Rattle.fetch_stream.specs.Streams.{StreamAt}
use Rattle.fetch_stream.specs.Morsels.{MorselsAt, morsel_stream}
use Rattle.fetch_workers.specs.inside.JoinedMorsels.{AnswersMorsels}

numbers_equal : (n m : ℕ) → IsProp (n ≡ m)
numbers_equal = Coded-set coded_ℕ

flags_equal : (x y : Bool) → IsProp (x ≡ y)
flags_equal = Coded-set coded_bool

schemas_equal : (x y : Schema) → IsProp (x ≡ y)
schemas_equal = Coded-set schema.the_row.coded

rows_equal : (xs ys : List Row) → IsProp (xs ≡ ys)
rows_equal = Coded-set (coded_list (coded_list value.the_row.coded))

faults_equal : (x y : Option Fault) → IsProp (x ≡ y)
faults_equal = Coded-set (coded_option fault.the_row.coded)

streams_equal : (x y : StreamAt) → IsProp (x ≡ y)
streams_equal = hlevel (numbers_equal, flags_equal, schemas_equal, rows_equal, faults_equal)

kept : (morsels : MorselsAt) (number : ℕ) (answer : StreamAt) → ∥ answer ≡ morsel_stream morsels number ∥₁ → answer ≡ morsel_stream morsels number
kept morsels number answer is = ∥∥₁_elim is (streams_equal answer (morsel_stream morsels number)) (λ x. x)

-- so the answers to morsels are those that are read
pub answers_morsels : (morsels : MorselsAt) → AnswersMorsels (λ (answer : StreamAt). answer) morsels (λ number answer. ∥ answer ≡ morsel_stream morsels number ∥₁) (length morsels.rows)
answers_morsels morsels = record { count_is = refl; each = kept morsels }
