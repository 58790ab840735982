-- Runs that are passed on one after the other.
use native.Mathlib.Omega.{arith}
use Rattle.std.proofs.Common.{◌≡◌, ◌<◌, ℕ, ◌+◌, ◌/◌, All, List, [], ◌∷◌, ◌++◌, map, length, Result, Ok, Err, refl, sym, ap, subst, ◌∙◌, inl, inr, append-nil, append_assoc}
use Rattle.std.specs.List.{flat_map}
use Rattle.std.proofs.lemmas.List.{map-append, length-append, length-map, nil_from_length}
use Rattle.std.proofs.lemmas.List.Elements.{All-append, All-from_recursion}
use Rattle.std.proofs.lemmas.Grind.{flat_map-append}
use Rattle.scan_base.specs.declared.fault.Fault.{Fault}
use Rattle.scan_base.specs.declared.fault.Fault.TheVariants.{Transport}
use Rattle.flight_proto.specs.FlightInfo.{EndpointSaid}
use Rattle.flight_proto.specs.InfoCommand.{InfoCommand}
use Rattle.flight_client.specs.Stream.{StreamAt}
use Rattle.row_stream.specs.Stream.{CountsTransport}
use Rattle.command_line.specs.declared.request.Format.{Format}
use Rattle.client_calls.specs.declared.failure.Failure.{Failure}
use Rattle.client_calls.specs.declared.failure.Failure.TheVariants.{Found}
use Rattle.client_calls.specs.Outcome.{Line}
use Rattle.command_ends.specs.Network.{Ends}
use Rattle.command_ends.specs.Printing.{Said}
use Rattle.client_commands.specs.declared.fetch_failure.FetchFailure.{FetchFailure}
use Rattle.client_commands.specs.declared.fetch_failure.FetchFailure.TheVariants.{Failed, Unconnected}
use Rattle.client_commands.specs.Fetching.{FetchesEach}
use Rattle.client_commands.specs.Formats.{WritesAll}
use Rattle.client_commands.specs.InTurn.{IsWrittenWhole, RunsCame, StopsAmong, StopsInTurn}
use Rattle.client_commands.specs.Lines.{opened_line}
use Rattle.client_commands.specs.ParallelFetch.{EachGives, FetchesOver, Giving, IsAsked, IsEvenPart, IsRun}
use Rattle.client_commands.specs.Streaming.{ComeSome, WhyNoMore, WritesUpTo, rows_held}
use Rattle.client_commands.specs.inside.Turns.{IsLeft, IsTurn, IsTurnBy, WritesAndBegins}
use Rattle.client_commands.specs.inside.WrittenRuns.{WritesRuns, StreamsOrNot}
use Rattle.client_commands.specs.inside.Writers.{WriterAt}
use Rattle.client_commands.specs.inside.Runs.{HaveCome, IsOpen, OpenAt, StopsInRun}
use Rattle.client_commands.proofs.Even.{all_left, part_even, part_left}
use Rattle.client_commands.proofs.Spread.{IsEven, asked, began, gave, gives_more, lines_more, many_given, run_of}

-- ---- runs that came whole

no_runs : (many : ℕ) (endpoints : List EndpointSaid) → RunsCame many [] endpoints endpoints []
no_runs many endpoints = record {
  runs = [];
  fetched = All-from_recursion IsRun [] tt;
  over = refl;
  all = refl;
  even = All-from_recursion (IsEven (length endpoints) many) [] tt;
  in_order = refl;
}

-- one run more
runs_more : (many : ℕ) (lines : List Line) (endpoints part rest : List EndpointSaid) (streams more : List StreamAt) (line last : Line) → RunsCame many lines endpoints (part ++ rest) streams
    → FetchesEach part more line last → IsEvenPart (length endpoints) many (length part) → RunsCame many (lines ++ line ∷ []) endpoints rest (streams ++ more)
runs_more many lines endpoints part rest streams more line last came fetched even =
    let run = run_of part more line last in record {
      runs = came.runs ++ run ∷ [];
      fetched = All-append IsRun came.runs (run ∷ []) came.fetched (All-from_recursion IsRun (run ∷ []) (fetched, tt));
      over = map-append began came.runs (run ∷ []) ∙ ap (λ (l : List Line). l ++ line ∷ []) came.over;
      all = ap (λ (l : List EndpointSaid). l ++ rest) (flat_map-append asked came.runs (run ∷ []) ∙ ap (λ (l : List EndpointSaid). flat_map asked came.runs ++ l) (append-nil part))
          ∙ (append_assoc (flat_map asked came.runs) part rest ∙ came.all);
      even = All-append (IsEven (length endpoints) many) came.runs (run ∷ []) came.even (All-from_recursion (IsEven (length endpoints) many) (run ∷ []) (even, tt));
      in_order = flat_map-append gave came.runs (run ∷ [])
          ∙ (ap (λ (l : List StreamAt). l ++ (more ++ [])) came.in_order ∙ ap (λ (l : List StreamAt). streams ++ l) (append-nil more));
    }

-- all runs
all_over : (many : ℕ) (lines : List Line) (endpoints : List EndpointSaid) (streams : List StreamAt) → RunsCame many lines endpoints [] streams → many ≡ length lines → FetchesOver lines endpoints streams
all_over many lines endpoints streams came is = record {
  runs = came.runs;
  fetched = came.fetched;
  over = came.over;
  all = sym (append-nil (flat_map asked came.runs)) ∙ came.all;
  even = subst (λ (n : ℕ). All (IsEven (length endpoints) n) came.runs) is came.even;
  in_order = came.in_order;
}

-- streams that came whole came
come_all : (endpoints : List EndpointSaid) (streams : List StreamAt) (old new : Line) → FetchesEach endpoints streams old new → ComeSome endpoints streams old new
come_all [] [] old new same = same
come_all [] (s ∷ ss) old new same = absurd same
come_all (e ∷ es) [] old new same = absurd same
come_all (e ∷ es) (s ∷ ss) old new fetched = inr (fetched.0, fetched.1, come_all es ss fetched.0 new fetched.2)

module _ (format : Format) where
  -- ---- a turn

  module _ (many : ℕ) (lines : List Line) (endpoints others behind : List EndpointSaid) (begun mid : Said) (now : OpenAt) (turn : IsTurn format many lines endpoints others behind begun now mid) where
    -- its run came whole
    turn_came : (more : List StreamAt) (last : Line) → FetchesEach (turn.endpoint ∷ others) more turn.line last → RunsCame many lines endpoints behind (turn.streams ++ more)
    turn_came more last fetched =
        subst (λ (l : List Line). RunsCame many l endpoints behind (turn.streams ++ more)) turn.over
        (runs_more many turn.before endpoints (turn.endpoint ∷ others) behind turn.streams more turn.line last turn.runs fetched turn.even)

    -- it stopped within it
    turn_stops : (failure : Failure) (out : Said) → StopsInRun format turn.streams (turn.endpoint ∷ others) failure turn.line begun out → StopsAmong format many lines endpoints failure begun out
    turn_stops failure out stops = record {
      before = turn.before;
      line = turn.line;
      over = turn.over;
      part = turn.endpoint ∷ others;
      rest = behind;
      whole = turn.streams;
      runs = turn.runs;
      even = turn.even;
      more = stops.more;
      some = stops.some;
      came = stops.came;
      last = stops.last;
      why = stops.why;
    }

    -- the next run was begun, or not
    module _ (ends : Ends) (next : EndpointSaid) (more rest : List EndpointSaid) (cut : (next ∷ more) ++ rest ≡ behind) (even : IsEvenPart (length endpoints) many (length (next ∷ more)))
        (streams : List StreamAt) (last : Line) (fetched : FetchesEach (turn.endpoint ∷ others) streams turn.line last) where
      before_next : RunsCame many lines endpoints ((next ∷ more) ++ rest) (turn.streams ++ streams)
      before_next = subst (λ (l : List EndpointSaid). RunsCame many lines endpoints l (turn.streams ++ streams)) (sym cut) (turn_came streams last fetched)

      next_turn : (after : OpenAt) (out : Said) → IsOpen format (turn.streams ++ streams) next.ticket (opened_line ends) begun after out → IsTurn format many (lines ++ opened_line ends ∷ []) endpoints more rest begun after out
      next_turn after out opened = record {
        before = lines;
        line = opened_line ends;
        over = refl;
        endpoint = next;
        streams = turn.streams ++ streams;
        runs = before_next;
        even = even;
        opened = opened;
      }

      next_stops : (failure : Failure) (out : Said) → StopsInRun format (turn.streams ++ streams) (next ∷ more) failure (opened_line ends) begun out → StopsAmong format many (lines ++ opened_line ends ∷ []) endpoints failure begun out
      next_stops failure out stops = record {
        before = lines;
        line = opened_line ends;
        over = refl;
        part = next ∷ more;
        rest = rest;
        whole = turn.streams ++ streams;
        runs = before_next;
        even = even;
        more = stops.more;
        some = stops.some;
        came = stops.came;
        last = stops.last;
        why = stops.why;
      }

  -- ---- over the connections of handles

  module _ {N : Type 0} (Gives : Giving N) (first : Line) (handles : List N) (endpoints : List EndpointSaid) (begun : Said) where
    -- ---- the first run

    module _ (next : EndpointSaid) (more rest : List EndpointSaid) (cut : (next ∷ more) ++ rest ≡ endpoints) (part : length (next ∷ more) ≡ length endpoints / (length handles + 1))
        (fewer : length handles < length endpoints) where
      left_first : IsLeft (length endpoints) (length handles + 1) (length endpoints) (length handles + 1)
      left_first = all_left (length endpoints) (length handles + 1) (omega (arith, fewer)) (omega arith)

      cut_first : length (next ∷ more) + length rest ≡ length endpoints
      cut_first = sym (length-append (next ∷ more) rest) ∙ ap length cut

      even_first : IsEvenPart (length endpoints) (length handles + 1) (length (next ∷ more))
      even_first = part_even (length endpoints) (length handles + 1) (length endpoints) (length handles) (length (next ∷ more)) (length rest) left_first part cut_first

      pub first_turn : (now : OpenAt) (out : Said) → IsOpen format [] next.ticket first begun now out → IsTurnBy Gives format first handles handles endpoints more rest begun now out
      first_turn now out opened = record {
        done = [];
        all = refl;
        made = [];
        given = tt;
        turn = record {
          before = [];
          line = first;
          over = refl;
          endpoint = next;
          streams = [];
          runs = subst (λ (l : List EndpointSaid). RunsCame (length handles + 1) [] endpoints l []) (sym cut) (no_runs (length handles + 1) endpoints);
          even = even_first;
          opened = opened;
        };
        remains = part_left (length endpoints) (length handles + 1) (length endpoints) (length handles) (length (next ∷ more)) (length rest) left_first part cut_first;
      }

      -- it stopped before anything was open
      pub first_stops : (failure : Failure) (out : Said) → StopsInRun format [] (next ∷ more) failure first begun out → StopsInTurn Gives format first handles endpoints failure begun out
      first_stops failure out stops = record {
        before = [];
        behind = handles;
        some = refl;
        made = [];
        given = tt;
        stops = record {
          before = [];
          line = first;
          over = refl;
          part = next ∷ more;
          rest = rest;
          whole = [];
          runs = subst (λ (l : List EndpointSaid). RunsCame (length handles + 1) [] endpoints l []) (sym cut) (no_runs (length handles + 1) endpoints);
          even = even_first;
          more = stops.more;
          some = stops.some;
          came = stops.came;
          last = stops.last;
          why = stops.why;
        };
      }

    -- ---- one run more

    module _ (handle : N) (left : List N) (others behind : List EndpointSaid) (mid : Said) (now : OpenAt) (it : IsTurnBy Gives format first handles (handle ∷ left) endpoints others behind begun now mid)
        (next : EndpointSaid) (more rest : List EndpointSaid) (cut : (next ∷ more) ++ rest ≡ behind) (part : length (next ∷ more) ≡ length behind / (length left + 1)) where
      left_next : IsLeft (length endpoints) (length handles + 1) (length behind) (length left + 1)
      left_next = subst (λ (n : ℕ). IsLeft (length endpoints) (length handles + 1) (length behind) n) (omega arith) it.remains

      cut_next : length (next ∷ more) + length rest ≡ length behind
      cut_next = sym (length-append (next ∷ more) rest) ∙ ap length cut

      even_next : IsEvenPart (length endpoints) (length handles + 1) (length (next ∷ more))
      even_next = part_even (length endpoints) (length handles + 1) (length behind) (length left) (length (next ∷ more)) (length rest) left_next part cut_next

      all_next : (it.done ++ handle ∷ []) ++ left ≡ handles
      all_next = append_assoc it.done (handle ∷ []) left ∙ it.all

      module _ {V : Type 0} (view : V → OpenAt) (out : Said) where
        abbrev right : V → Result V FetchFailure
        right passing = Ok passing

        abbrev wrong : FetchFailure → Result V FetchFailure
        wrong lost = Err lost

        pub relayed : (passing : V) → WritesAndBegins Gives format view next handle it.turn.streams (it.turn.endpoint ∷ others) it.turn.line begun (Ok passing) out
            → IsTurnBy Gives format first handles left endpoints more rest begun (view passing) out
        relayed passing (inl (failure, is, stops)) = let no : right passing ≡ wrong (Failed failure) = is in absurd cc
        relayed passing (inr passes) =
            let ends = passes.takes.0 in record {
              done = it.done ++ handle ∷ [];
              all = all_next;
              made = it.made ++ ends ∷ [];
              given = gives_more Gives it.done handle it.made ends it.given passes.takes.1;
              turn = subst (λ (l : List Line). IsTurn format (length handles + 1) l endpoints more rest begun (view passing) out) (lines_more Gives first it.made ends)
                  (next_turn (length handles + 1) (first ∷ map opened_line it.made) endpoints others behind begun mid now it.turn ends next more rest cut even_next passes.streams passes.last passes.fetched (view passing) out passes.takes.2);
              remains = part_left (length endpoints) (length handles + 1) (length behind) (length left) (length (next ∷ more)) (length rest) left_next part cut_next;
            }

        pub relay_lost : (lost : FetchFailure) → WritesAndBegins Gives format view next handle it.turn.streams (it.turn.endpoint ∷ others) it.turn.line begun (Err lost) out → WritesRuns Gives format first handles endpoints (Err lost) begun out
        relay_lost (Failed failure) (inl (same, is, stops)) =
            let e : wrong (Failed failure) ≡ wrong (Failed same) = is in
            let failed : same ≡ failure = cc in
            record {
              before = it.done;
              behind = handle ∷ left;
              some = it.all;
              made = it.made;
              given = it.given;
              stops = subst (λ (f : Failure). StopsAmong format (length handles + 1) (first ∷ map opened_line it.made) endpoints f begun out) failed
                  (turn_stops (length handles + 1) (first ∷ map opened_line it.made) endpoints others behind begun mid now it.turn same out stops);
            }
        relay_lost (Failed failure) (inr passes) =
            let ends = passes.takes.0 in record {
              before = it.done ++ handle ∷ [];
              behind = left;
              some = all_next;
              made = it.made ++ ends ∷ [];
              given = gives_more Gives it.done handle it.made ends it.given passes.takes.1;
              stops = subst (λ (l : List Line). StopsAmong format (length handles + 1) l endpoints failure begun out) (lines_more Gives first it.made ends)
                  (next_stops (length handles + 1) (first ∷ map opened_line it.made) endpoints others behind begun mid now it.turn ends next more rest cut even_next passes.streams passes.last passes.fetched failure out (passes.takes.2 more));
            }
        relay_lost (Unconnected error) (inl (failure, is, stops)) = let no : wrong (Unconnected error) ≡ wrong (Failed failure) = is in absurd cc
        relay_lost (Unconnected error) (inr passes) = record {
          before = it.done;
          handle = handle;
          behind = left;
          some = it.all;
          made = it.made;
          given = it.given;
          rest = behind;
          streams = it.turn.streams ++ passes.streams;
          runs = turn_came (length handles + 1) (first ∷ map opened_line it.made) endpoints others behind begun mid now it.turn passes.streams passes.last passes.fetched;
          refused = passes.takes.0;
          wrote = passes.takes.1;
        }

    -- ---- the last run

    module _ (others behind : List EndpointSaid) (mid : Said) (now : OpenAt) (it : IsTurnBy Gives format first handles [] endpoints others behind begun now mid) where
      abbrev lines : List Line
      lines = first ∷ map opened_line it.made

      all_done : it.done ≡ handles
      all_done = sym (append-nil it.done) ∙ it.all

      pub last_stops : (failure : Failure) (out : Said) → StopsInRun format it.turn.streams (it.turn.endpoint ∷ others) failure it.turn.line begun out → StopsInTurn Gives format first handles endpoints failure begun out
      last_stops failure out stops = record {
        before = it.done;
        behind = [];
        some = it.all;
        made = it.made;
        given = it.given;
        stops = turn_stops (length handles + 1) lines endpoints others behind begun mid now it.turn failure out stops;
      }

      module _ (writer : WriterAt) (last : Line) (out out' : Said) (passed : HaveCome format it.turn.streams (it.turn.endpoint ∷ others) it.turn.line begun (record { line = last; writer = writer }) out) where
        none_behind : behind ≡ []
        none_behind = nil_from_length behind (it.remains.none refl)

        all_came : RunsCame (length handles + 1) lines endpoints [] (it.turn.streams ++ passed.streams)
        all_came = subst (λ (l : List EndpointSaid). RunsCame (length handles + 1) lines endpoints l (it.turn.streams ++ passed.streams)) none_behind
            (turn_came (length handles + 1) lines endpoints others behind begun mid now it.turn passed.streams last passed.fetched)

        many_lines : length handles + 1 ≡ length lines
        many_lines = omega (arith, length-map it.made opened_line, many_given Gives it.done it.made it.given, ap length all_done)

        -- the end was written
        pub ended_whole : WritesAll {A = Unit {0}} {E = Fault} (Ok tt) format passed.sent.schema (rows_held (it.turn.streams ++ passed.streams)) begun.bytes out'.bytes → out'.failures ≡ out.failures
            → IsWrittenWhole Gives format first handles endpoints begun out'
        ended_whole (bytes, whole, wrote) quiet = record {
          streams = it.turn.streams ++ passed.streams;
          over = record {
            made = it.made;
            given = subst (λ (l : List N). EachGives Gives l it.made) all_done it.given;
            over = all_over (length handles + 1) lines endpoints (it.turn.streams ++ passed.streams) all_came many_lines;
          };
          table = record { schema = passed.sent.schema; rows = rows_held (it.turn.streams ++ passed.streams) };
          rows_are = passed.sent.join;
          bytes = bytes;
          whole = whole;
          wrote = wrote;
          quiet = quiet ∙ passed.sent.quiet;
        }

        -- or not
        pub not_ended : (fault : Fault) → WritesAll {A = Unit {0}} {E = Fault} (Err fault) format passed.sent.schema (rows_held (it.turn.streams ++ passed.streams)) begun.bytes out'.bytes → fault ≡ Transport
            → CountsTransport {A = Unit {0}} (Err fault) out.failures out'.failures → StopsInTurn Gives format first handles endpoints (Found fault) begun out'
        not_ended fault part is counted = last_stops (Found fault) out' (record {
          more = passed.streams;
          some = last;
          came = come_all (it.turn.endpoint ∷ others) passed.streams it.turn.line last passed.fetched;
          last = last;
          why = inr (
            fault,
            refl,
            subst (WhyNoMore format (it.turn.streams ++ passed.streams)) (sym is) tt,
            subst (λ (f : Fault). WritesUpTo format f (it.turn.streams ++ passed.streams) begun out') (sym is)
                (passed.sent.schema, passed.sent.says, part, subst (λ (n : ℕ). out'.failures ≡ n + 1) passed.sent.quiet (subst (λ (f : Fault). CountsTransport {A = Unit {0}} (Err f) out.failures out'.failures) is counted)),
            refl,
          );
        })

  -- ---- all

  -- it was asked, and the runs were passed on or not
  pub streams_by : {N : Type 0} (Gives : Giving N) (Shares : N → N → N → Type 0) (streams : ℕ) (wanted : InfoCommand) (old new : N) (first last : Line) (endpoints parts : List EndpointSaid) (handles : List N)
      (result : Result (Unit {0}) FetchFailure) (out out' : Said) → parts ≡ endpoints → IsAsked Shares streams wanted old new first last endpoints handles → WritesRuns Gives format last handles parts result out out'
      → StreamsOrNot Gives Shares format streams wanted old new result first last out out'
  streams_by Gives Shares streams wanted old new first last endpoints parts handles (Ok done) out out' same is_asked passes =
      record { endpoints = endpoints; handles = handles; asked = is_asked; comes = subst (λ (l : List EndpointSaid). WritesRuns Gives format last handles l (Ok done) out out') same passes }
  streams_by Gives Shares streams wanted old new first last endpoints parts handles (Err (Failed failure)) out out' same is_asked passes =
      inr (record { endpoints = endpoints; handles = handles; asked = is_asked; comes = subst (λ (l : List EndpointSaid). WritesRuns Gives format last handles l (Err (Failed failure)) out out') same passes })
  streams_by Gives Shares streams wanted old new first last endpoints parts handles (Err (Unconnected error)) out out' same is_asked passes =
      record { endpoints = endpoints; handles = handles; asked = is_asked; comes = subst (λ (l : List EndpointSaid). WritesRuns Gives format last handles l (Err (Unconnected error)) out out') same passes }
