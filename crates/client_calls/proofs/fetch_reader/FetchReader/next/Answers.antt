use Rattle.std.proofs.Common.{◌∙◌, ap, subst, sym}
use Rattle.client_calls.specs.Outcome.{Line}
use Rattle.client_calls.specs.Taking.{FetchAt, IsFetchReader}
use Rattle.client_calls.proofs.Next.{all_few, has_taken, next_gives, next_stops}
use Rattle.client_calls.proofs.fetch_reader.FetchReader.next.Goals as goal

pub returns-in-Ok-clause-next : goal.returns-in-Ok-clause-next
returns-in-Ok-clause-next g c ticket stream begun is fetching =
    let line = ap (λ (f : FetchAt). f.line) (sym c.self.view_is) in
    let state = ap (λ (f : FetchAt). f.state) (sym c.self.view_is) in
    let moved = subst {A = Line} (λ (l : Line). IsFetchReader ticket stream begun l) line fetching in
    let at = rw c.in_default.is at moved in
    let has = has_taken ticket stream begun _ _ _ _ at in
    rw c.in_default.is (next_gives ticket stream begun _ _ _ _ at c.in-Ok.taken _ _ _ _ (c.in-Ok.ensures.takes stream _ _ (is ∙ state) has))

pub returns-in-Ok-clause-few : goal.returns-in-Ok-clause-few
returns-in-Ok-clause-few g c =
    let known = c.self.invariant.1 in
    all_few c.in-Ok.taken _ _ known.0 known.1 known.2 c.in-Ok.ensures.kept c.in-Ok.ensures.columns

pub returns-in-Err-clause-next : goal.returns-in-Err-clause-next
returns-in-Err-clause-next g c ticket stream begun is fetching =
    let line = ap (λ (f : FetchAt). f.line) (sym c.self.view_is) in
    let state = ap (λ (f : FetchAt). f.state) (sym c.self.view_is) in
    let moved = subst {A = Line} (λ (l : Line). IsFetchReader ticket stream begun l) line fetching in
    let at = rw c.in_default.is at moved in
    let has = has_taken ticket stream begun _ _ _ _ at in
    next_stops ticket stream begun _ _ _ _ at c.in-Err.fault _ _ _ (c.in-Err.ensures.takes stream _ _ (is ∙ state) has)
