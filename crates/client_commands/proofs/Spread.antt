-- Connections, each with a run of endpoints.
use Rattle.std.proofs.Common.{◌≡◌, ℕ, suc, ◌+◌, arith, length, List, [], ◌∷◌, ◌++◌, map, Option, refl, subst, sym, ap}
use Rattle.std.proofs.lemmas.List.{map-append, length-append}
use Rattle.flight_proto.specs.FlightInfo.{EndpointSaid}
use Rattle.flight_client.specs.Stream.{StreamAt}
use Rattle.client_calls.specs.Outcome.{Line}
use Rattle.command_ends.specs.Network.{Ends}
use Rattle.client_commands.specs.Lines.{opened_line}
use Rattle.client_commands.specs.ParallelFetch.{Run, IsEvenPart, EachGives, GivesAtLast, SharesHandles}

abbrev pub run_of : List EndpointSaid → List StreamAt → Line → Line → Run
run_of endpoints streams old new = record { endpoints = endpoints; streams = streams; old = old; new = new }

abbrev pub began : Run → Line
began run = run.old

abbrev pub asked : Run → List EndpointSaid
asked run = run.endpoints

abbrev pub gave : Run → List StreamAt
gave run = run.streams

-- a run has an even part of so many endpoints, over so many connections
abbrev pub IsEven : ℕ → ℕ → Run → Type 0
IsEven whole many run = IsEvenPart whole many (length run.endpoints)

-- ---- connections

-- one handle more
pub shares_more : {N : Type 0} (Shares : N → N → N → Type 0) (handles : List N) (handle : N) (old middle new : N)
    → SharesHandles Shares handles old middle → Shares middle handle new → SharesHandles Shares (handles ++ handle ∷ []) old new
shares_more {N} Shares [] handle old middle new same one = (new, subst (λ (from : N). Shares from handle new) same one, refl)
shares_more Shares (h ∷ hs) handle old middle new shared one = (shared.0, shared.1, shares_more Shares hs handle shared.0 middle new shared.2 one)

pub one_more : {A : Type 0} (items : List A) (item : A) (n : ℕ) → length items ≡ n → length (items ++ item ∷ []) ≡ n + 1
one_more items item n is = omega (arith, length-append items (item ∷ []), is)

-- ---- over the connections of handles

module _ {N : Type 0} (Gives : N → Option Ends → N → Type 0) where
  -- one connection more
  pub gives_more : (handles : List N) (handle : N) (made : List Ends) (ends : Ends) → EachGives Gives handles made → GivesAtLast Gives handle ends
      → EachGives Gives (handles ++ handle ∷ []) (made ++ ends ∷ [])
  gives_more [] handle [] ends given one = (one, tt)
  gives_more [] handle (m ∷ ms) ends given one = absurd given
  gives_more (h ∷ hs) handle [] ends given one = absurd given
  gives_more (h ∷ hs) handle (m ∷ ms) ends given one = (given.0, gives_more hs handle ms ends given.1 one)

  -- as many connections as handles
  pub many_given : (handles : List N) (made : List Ends) → EachGives Gives handles made → length made ≡ length handles
  many_given [] [] given = refl
  many_given [] (m ∷ ms) given = absurd given
  many_given (h ∷ hs) [] given = absurd given
  many_given (h ∷ hs) (m ∷ ms) given = ap suc (many_given hs ms given.1)

  -- the lines of one connection more
  pub lines_more : (first : Line) (made : List Ends) (ends : Ends)
      → (first ∷ map opened_line made) ++ opened_line ends ∷ [] ≡ first ∷ map opened_line (made ++ ends ∷ [])
  lines_more first made ends = ap (λ (l : List Line). first ∷ l) (sym (map-append opened_line made (ends ∷ [])))
