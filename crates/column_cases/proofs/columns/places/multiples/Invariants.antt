use Rattle.std.proofs.Common.{◌<◌, All}
use Rattle.column_cases.proofs.columns.places.multiples.Given as goal

abbrev pub invariant-loop-place : goal.invariant-loop-place
invariant-loop-place l = All (λ place. place < l.place) l.places
