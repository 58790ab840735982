-- Steps of a reading, and what the slots of a table have.
use Rattle.std.proofs.Common.{◌≡◌, ℕ, Bool, true, false, List, [], ◌∷◌, Option, Some, None, inl, inr, Result, Ok, Err, refl, sym, ap, ◌∙◌, subst}
use Rattle.std.proofs.lemmas.Bool.Decides.{eqb_tells}
use Rattle.scan_base.specs.declared.fault.Fault.{Fault}
use Rattle.scan_base.specs.declared.fault.Fault.TheVariants.{BadFlatbuffer}
use Rattle.scan_base.specs.Reading.{◌>>=◌, demand, wanted}
use Rattle.flatbuf.specs.Layout.{TableAt, VectorAt, IsBytes, IsReached, IsTable, IsVector, HasScalar, HasTable, HasVector, HasText, HasElement}
use Rattle.flatbuf.specs.Place.{scalar_of, table_of, vector_of, text_of, element_of}
use Rattle.flatbuf.proofs.Readings.{seen_finds, seen_scalar, seen_table, seen_vector, seen_text, seen_element}
use Rattle.arrow_schema.specs.Meanings.{meaning_of}
use Rattle.arrow_schema.specs.Fields.{table_wanted, vector_wanted}

-- ---- steps of a reading

-- what was read in two steps
pub bind_ok : {A B : Type 0} (read : Result A Fault) (next : A → Result B Fault) (y : B) → (read >>= next) ≡ Ok y → (x : A) × (read ≡ Ok x) × (next x ≡ Ok y)
bind_ok (Ok x) next y e = (x, refl, e)
bind_ok (Err fault) next y e = absurd (let no : ⊥ = cc in no)

pub demand_ok : (holds : Bool) (fault : Fault) (u : Unit {0}) → demand holds fault ≡ Ok u → holds ≡ true
demand_ok true fault u e = refl
demand_ok false fault u e = absurd (let no : ⊥ = cc in no)

pub wanted_ok : {A : Type 0} (found : Option A) (fault : Fault) (x : A) → wanted found fault ≡ Ok x → found ≡ Some x
wanted_ok (Some y) fault x e = cc
wanted_ok None fault x e = absurd (let no : ⊥ = cc in no)

-- a refusal is no value
pub refused : {A : Type 0} {P : Type 0} (fault : Fault) (y : A) → Err fault ≡ Ok y → P
refused fault y e = absurd (let no : ⊥ = cc in no)

-- what holds of each row holds of what a number stands for among them
abbrev pub HoldOf : {A : Type 0} → (ℕ → A → Type 0) → List (ℕ × A) → Type 0
HoldOf P [] = Unit {0}
HoldOf P (row ∷ rows) = P row.0 row.1 × HoldOf P rows

pub meaning_told : {A : Type 0} (P : ℕ → A → Type 0) (rows : List (ℕ × A)) (number : ℕ) (a : A) → HoldOf P rows → meaning_of rows number ≡ Ok a → P number a
meaning_told P [] number a hold e = absurd (let no : ⊥ = cc in no)
meaning_told P (row ∷ rows) number a hold e = elim (eqb_tells number row.0) [
  | inl h ↦ let f = rw h.0 at e in let same : row.1 ≡ a = cc in rw (h.1, ← same) hold.0
  | inr h ↦ meaning_told P rows number a hold.1 (rw h.0 at e)
]

-- ---- what a slot has, and what is read of it

pub says_scalar : (width : ℕ) (t : TableAt) (slot default n : ℕ) → IsBytes t.bytes → scalar_of width t slot default ≡ Ok n → HasScalar width t slot default n
says_scalar width t slot default n is e = ((seen_finds (scalar_of width t slot default) (HasScalar width t slot default) (seen_scalar width t slot default is)).value n).0 e

pub reads_scalar : (width : ℕ) (t : TableAt) (slot default n : ℕ) → IsBytes t.bytes → HasScalar width t slot default n → scalar_of width t slot default ≡ Ok n
reads_scalar width t slot default n is h = ((seen_finds (scalar_of width t slot default) (HasScalar width t slot default) (seen_scalar width t slot default is)).value n).1 h

pub says_table : (t : TableAt) (slot : ℕ) (found : Option TableAt) → IsBytes t.bytes → table_of t slot ≡ Ok found → HasTable t slot found
says_table t slot found is e = ((seen_finds (table_of t slot) (HasTable t slot) (seen_table t slot is)).value found).0 e

pub reads_table : (t : TableAt) (slot : ℕ) (found : Option TableAt) → IsBytes t.bytes → HasTable t slot found → table_of t slot ≡ Ok found
reads_table t slot found is h = ((seen_finds (table_of t slot) (HasTable t slot) (seen_table t slot is)).value found).1 h

pub says_vector : (t : TableAt) (slot : ℕ) (found : Option VectorAt) → IsBytes t.bytes → vector_of t slot ≡ Ok found → HasVector t slot found
says_vector t slot found is e = ((seen_finds (vector_of t slot) (HasVector t slot) (seen_vector t slot is)).value found).0 e

pub reads_vector : (t : TableAt) (slot : ℕ) (found : Option VectorAt) → IsBytes t.bytes → HasVector t slot found → vector_of t slot ≡ Ok found
reads_vector t slot found is h = ((seen_finds (vector_of t slot) (HasVector t slot) (seen_vector t slot is)).value found).1 h

pub says_text : (t : TableAt) (slot : ℕ) (found : Option (List ℕ)) → IsBytes t.bytes → text_of t slot ≡ Ok found → HasText t slot found
says_text t slot found is e = ((seen_finds (text_of t slot) (HasText t slot) (seen_text t slot is)).value found).0 e

pub reads_text : (t : TableAt) (slot : ℕ) (found : Option (List ℕ)) → IsBytes t.bytes → HasText t slot found → text_of t slot ≡ Ok found
reads_text t slot found is h = ((seen_finds (text_of t slot) (HasText t slot) (seen_text t slot is)).value found).1 h

pub says_element : (vector : VectorAt) (index : ℕ) (table : TableAt) → element_of vector index ≡ Ok table → HasElement vector index table
says_element vector index table e = ((seen_finds (element_of vector index) (HasElement vector index) (seen_element vector index)).value table).0 e

pub reads_element : (vector : VectorAt) (index : ℕ) (table : TableAt) → HasElement vector index table → element_of vector index ≡ Ok table
reads_element vector index table h = ((seen_finds (element_of vector index) (HasElement vector index) (seen_element vector index)).value table).1 h

-- a table or a vector that a slot leads to is of the same buffer
led_same : (bytes : List ℕ) (place : Option ℕ) (found : TableAt) → IsReached (IsTable bytes) bytes place (Some found) → found.bytes ≡ bytes
led_same bytes None found r = absurd r
led_same bytes (Some at) found r = r.there.same

pub bytes_table : (t : TableAt) (slot : ℕ) (found : TableAt) → IsBytes t.bytes → HasTable t slot (Some found) → IsBytes found.bytes
bytes_table t slot found is h = subst IsBytes (sym (led_same t.bytes h.place found h.reached)) is

vector_same : (bytes : List ℕ) (place : Option ℕ) (found : VectorAt) → IsReached (IsVector bytes) bytes place (Some found) → found.bytes ≡ bytes
vector_same bytes None found r = absurd r
vector_same bytes (Some at) found r = r.there.same

pub bytes_vector : (t : TableAt) (slot : ℕ) (found : VectorAt) → IsBytes t.bytes → HasVector t slot (Some found) → IsBytes found.bytes
bytes_vector t slot found is h = subst IsBytes (sym (vector_same t.bytes h.place found h.reached)) is

pub wanted_table : (t : TableAt) (slot : ℕ) (found : TableAt) → table_wanted t slot ≡ Ok found → table_of t slot ≡ Ok (Some found)
unfolding table_wanted
wanted_table t slot found e =
    let a = bind_ok (table_of t slot) _ found e in
    a.1 ∙ ap Ok (wanted_ok a.0 BadFlatbuffer found a.2)

pub wanted_vector : (t : TableAt) (slot : ℕ) (found : VectorAt) → vector_wanted t slot ≡ Ok found → vector_of t slot ≡ Ok (Some found)
unfolding vector_wanted
wanted_vector t slot found e =
    let a = bind_ok (vector_of t slot) _ found e in
    a.1 ∙ ap Ok (wanted_ok a.0 BadFlatbuffer found a.2)
