-- Why a stream was not written.
use Rattle.std.proofs.Common.{inl, inr, ℕ, List, [], ◌∷◌, Option, Result, Ok, Err, sym, subst, arith}
use Rattle.scan_base.specs.declared.fault.Fault.{Fault}
use Rattle.scan_base.specs.declared.fault.Fault.TheVariants.{LimitReached, OutOfMemory}
use Rattle.arrow_types.specs.declared.schema.Schema.{Schema}
use Rattle.arrays.specs.Batch.{BatchAt}
use Rattle.grpc_frame.specs.Ends.{CountsFailure, FailsByTransport}
use Rattle.row_stream.specs.Stream.{CountsTransport, CountsWrites, IsCause, WritesCounted}
use Rattle.row_stream.specs.inside.Cuts.{IsUncut}

-- a failed transport is counted
pub counts : {A : Type 0} (result : Result A Fault) (old new : ℕ) → CountsFailure result old new → FailsByTransport result → CountsTransport result old new
counts (Ok x) old new counted kind = counted
counts {A = A} (Err fault) old new counted kind = subst (λ (f : Fault). CountsTransport {A = A} (Err f) old new) (sym kind) counted

-- ---- a result

-- ---- no more rows were cut

pub uncut_counted : (schema : Schema) (batch : BatchAt) (fault : Fault) (a b : Option (List ℕ)) (bytes : List ℕ) (old new : ℕ) → IsUncut schema batch fault → WritesCounted a b bytes old new → CountsWrites {A = Unit {0}} (Err fault) old new
uncut_counted schema batch OutOfMemory a b bytes old new why (inl whole) = inl whole.1
uncut_counted schema batch OutOfMemory a b bytes old new why (inr part) = inr part.1
uncut_counted schema batch LimitReached a b bytes old new why (inl whole) = inl whole.1
uncut_counted schema batch LimitReached a b bytes old new why (inr part) = inr part.1
uncut_counted schema batch _ a b bytes old new why wrote = absurd why

pub uncut_cause : (schema : Schema) (batch : BatchAt) (fault : Fault) → IsUncut schema batch fault → IsCause schema (batch ∷ []) fault
uncut_cause schema batch OutOfMemory why = tt
uncut_cause schema batch LimitReached long = λ each. long (each 0 batch (omega arith))
uncut_cause schema batch _ why = absurd why

-- ---- a batch
