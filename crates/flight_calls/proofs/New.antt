-- What became of a connection that was new.
use Rattle.std.proofs.Common.{◌≡◌, ℕ, List, [], ◌∷◌, ◌++◌, Option, Some, None, Result, Ok, Err, refl, sym, ap, ◌∙◌, append_assoc, append-nil}
use Rattle.std.specs.Io.KnownBytes.{Appends}
use Rattle.scan_base.specs.declared.fault.Fault.{Fault}
use Rattle.grpc_frame.specs.Ends.{AppendsBeginning}
use Rattle.flight_calls.specs.declared.setting.Options.{Options}
use Rattle.flight_calls.specs.Laws.{IsNew, IsWhole}
use Rattle.flight_core.specs.Seats.{Moves}
use Rattle.flight_calls.specs.OwedAnswers.{Connection, Serves, Why, Wrote, calls_bytes, items_owed}
use Rattle.flight_calls.proofs.Serving.{joined, joined_more}

-- all that an output holds is a beginning of these items
record Written (output : Option (List ℕ)) (done begun : List (List ℕ)) : Type 0 where
  written : List ℕ
  holds : output ≡ Some written
  more : List ℕ
  begins : joined (done ++ begun) ≡ written ++ more
  all : begun ≡ [] → more ≡ []

whole_items : (output : Option (List ℕ)) (done : List (List ℕ)) → Appends (Some []) output (joined done) → Written output done []
whole_items None done wrote = absurd wrote
whole_items (Some bytes) done wrote = record {
  written = bytes;
  holds = refl;
  more = [];
  begins = ap joined (append-nil done) ∙ sym wrote ∙ sym (append-nil bytes);
  all = λ none. refl;
}

begun_item : (before output : Option (List ℕ)) (done : List (List ℕ)) (item : List ℕ) → Appends (Some []) before (joined done) → AppendsBeginning before output item → Written output done (item ∷ [])
begun_item None output done item wrote begun = absurd wrote
begun_item (Some bytes) None done item wrote begun = absurd begun.wrote
begun_item (Some bytes) (Some now) done item wrote begun = record {
  written = now;
  holds = refl;
  more = begun.rest;
  begins = joined_more done item
      ∙ ap (λ (l : List ℕ). l ++ item) (sym wrote)
      ∙ ap (λ (l : List ℕ). bytes ++ l) begun.splits
      ∙ sym (append_assoc bytes begun.front begun.rest)
      ∙ ap (λ (l : List ℕ). l ++ begun.rest) (sym begun.wrote);
  all = λ none. let wrong : ⊥ = cc in absurd wrong;
}

written_to : (old new : Option (List ℕ)) (done begun : List (List ℕ)) → old ≡ Some [] → Wrote old new done begun → Written new done begun
written_to old new done [] is wrote = whole_items new done (rw is at wrote)
written_to old new done (item ∷ []) is wrote = begun_item wrote.0 new done item (rw is at wrote.1) wrote.2
written_to old new done (item ∷ (next ∷ others)) is wrote = absurd wrote

-- where it ended well no item was only begun
none_begun : (result : Result (Unit {0}) Fault) (old new : Connection) (rest : List ℕ) (last : Option Fault) (begun : List (List ℕ)) → Why result old new rest last begun → result ≡ Ok tt → begun ≡ []
none_begun (Ok done) old new rest None [] why is = refl
none_begun (Ok done) old new rest last begun why is = absurd why
none_begun (Err fault) old new rest last begun why is = let wrong : ⊥ = cc in absurd wrong

pub new_whole : (moves : Moves) (options : Options) (result : Result (Unit {0}) Fault) (old new : Connection) (serves : Serves moves options result old new)
    → IsNew old → IsWhole result new serves.calls serves.rest (items_owed serves.replies serves.last)
new_whole moves options result old new s is =
    let held = written_to old.output new.output s.done s.begun is.1 s.wrote in
    record {
      read = s.consumed.gave ∙ ap (λ (l : List ℕ). l ++ (calls_bytes s.calls ++ s.rest)) is.0;
      written = held.written;
      holds = held.holds;
      more = held.more;
      begins = ap joined s.owes ∙ held.begins;
      all = λ ended. held.all (none_begun result old new s.rest s.last s.begun s.why ended);
    }
