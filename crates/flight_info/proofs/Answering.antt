-- Answers to what is wanted, made of what was found.
use Rattle.std.proofs.Common.{◌≡◌, ℕ, nat_le, Bool, true, false, List, [], ◌∷◌, length, None, Result, Ok, Err, refl, ap, ◌∙◌, arith}
use Rattle.scan_base.specs.declared.fault.Fault.{Fault}
use Rattle.scan_base.specs.declared.fault.Fault.TheVariants.{LimitReached}
use Rattle.scan_base.specs.Limits.{most_query_bytes}
use Rattle.scan_base.specs.Reading.{◌>>=◌, demand, RefusesFirst}
use Rattle.flight_proto.specs.FlightInfo.{info_bytes, info_with}
use Rattle.flight_proto.specs.InfoCommand.{InfoCommand, rows_of, tables, wanted_in}
use Rattle.flight_proto.specs.WrappedBytes.{wrapped_bytes}
use Rattle.flight_proto.proofs.ReadsBack.{wrapped_back}
use Rattle.table_versions.specs.Database.{Database}
use Rattle.flight_info.specs.Payloads.{Payload}
use Rattle.flight_info.specs.Infos.{short_enough, InfoAt, SchemaAt}
use Rattle.flight_info.specs.inside.InfoParts.{Describes, HasForm}
use Rattle.flight_info.proofs.Informing.{request_is, info_reads, info_right}

-- ---- texts that are short enough

-- a text that is not refused first is short enough, and nothing else is looked at
pub short_kept : (wanted : InfoCommand) → (result : Result InfoCommand Fault) → short_enough wanted ≡ result → (other : InfoCommand) → result ≡ Ok other → other ≡ wanted
short_kept (rows_of text) result e other is = by (nat_le (length text) most_query_bytes) (e ∙ is)
  where
    good : InfoCommand → Result InfoCommand Fault
    good wanted = Ok wanted

    by : (short : Bool) → (demand short LimitReached >>= λ _. good (rows_of text)) ≡ Ok other → other ≡ rows_of text
    by true e = cc
    by false e = absurd cc
short_kept tables result e other is = by (e ∙ is)
  where
    by : short_enough tables ≡ Ok other → other ≡ tables
    by same = cc

-- what was not refused first is shown
pub shown : {X : Type 0} (x : X) (wanted : InfoCommand) → RefusesFirst (Ok x) (short_enough wanted) → short_enough wanted ≡ Ok wanted
shown {X} x wanted first = by (short_enough wanted) refl first
  where
    by : (result : Result InfoCommand Fault) → short_enough wanted ≡ result → RefusesFirst (Ok x) result → result ≡ Ok wanted
    by (Ok other) e first = ap Ok (short_kept wanted (Ok other) e other refl)
    by (Err fault) e first = absurd cc

-- ---- infos and schemas

pub info_made : (database : Database) (n : ℕ) (payload : Payload) (parts : ℕ) (wanted : InfoCommand) (form : List ℕ) (tickets : List (List ℕ))
    → Describes database n parts wanted form tickets → wanted_in payload ≡ Ok wanted → short_enough wanted ≡ Ok wanted
    → (answers : List Payload) → answers ≡ info_bytes (info_with form payload tickets) ∷ [] → InfoAt database n payload parts (short_enough wanted) answers None
info_made database n payload parts wanted form tickets told e s answers is =
    let asked = request_is payload wanted e in
    rw s (
      info_with form payload tickets,
      is,
      info_reads database n parts wanted form tickets told payload asked,
      info_right database n parts wanted form tickets told payload asked,
    )

pub schema_made : (database : Database) (payload : Payload) (wanted : InfoCommand) → wanted_in payload ≡ Ok wanted → (form : List ℕ) → HasForm database wanted form
    → short_enough wanted ≡ Ok wanted → (answers : List Payload) → answers ≡ wrapped_bytes form ∷ [] → SchemaAt database (wanted_in payload >>= short_enough) answers None
schema_made database payload wanted e form has s answers is =
    rw (e, s) (form, has.answer, is, wrapped_back form (omega (arith, has.small)), has.answers, has.schema)
