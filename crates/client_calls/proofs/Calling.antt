-- A connection, and a call on it.
use Rattle.std.proofs.Common.{◌≡◌, ◌≢◌, ℕ, ◌<◌, List, Option, Some, None, Result, Ok, Err, refl, sym, ap, subst, ◌∙◌, inl, inr}
use Rattle.scan_base.specs.declared.fault.Fault.{Fault}
use Rattle.scan_base.specs.declared.fault.Fault.TheVariants.{MessageTooLarge, OutOfMemory, Transport}
use Rattle.grpc_frame.specs.Ends.{Advances, Tape}
use Rattle.grpc_frame.specs.Records.{Received, with_more}
use Rattle.flight_info.specs.Payloads.{Payload}
use Rattle.client_calls.specs.declared.call.Method.{Method}
use Rattle.client_calls.specs.declared.failure.Failure.{Failure}
use Rattle.client_calls.specs.declared.failure.Failure.TheVariants.{Found}
use Rattle.client_calls.specs.Answers.{Incoming, Stop, stopped_at, AnswersOne}
use Rattle.client_calls.specs.Outcome.{Outgoing, Line, left_of, IsWritten, WhyNot, CallsAt, Calls}
use Rattle.client_calls.specs.inside.Parts.{incoming_of, line_of, IsOpen, HasStopped, WritesCall, SendsCall, Receives}
use Rattle.client_calls.proofs.Ones.{AnswersMessage, reads, does_not_read, gives_none}

-- ---- one that is open

-- no call stopped it
pub is_none : (a : Tape) (x : ℕ) (stopped : Option Fault) (left : Received) (out : Outgoing) (line : Line)
    → line_of a x stopped left out ≡ line → IsOpen line → stopped ≡ None
is_none a x None left out line is is_open = refl
is_none a x (Some fault) left out line is is_open =
    let e : stopped_at fault left ≡ Ok is_open.0 = ap (λ (l : Line). l.incoming.left) is ∙ is_open.1 in absurd cc

-- how many of its reads and writes failed
pub few_reads : (a : Tape) (x n : ℕ) (stopped : Option Fault) (left : Received) (out : Outgoing) (line : Line)
    → line_of a x stopped left out ≡ line → line.incoming.failed < n → x < n
few_reads a x n stopped left out line is few = subst (λ (l : Line). l.incoming.failed < n) (sym is) few

pub few_writes : (a : Tape) (x n : ℕ) (stopped : Option Fault) (left : Received) (out : Outgoing) (line : Line)
    → line_of a x stopped left out ≡ line → line.outgoing.failed < n → out.failed < n
few_writes a x n stopped left out line is few = subst (λ (l : Line). l.outgoing.failed < n) (sym is) few

-- ---- writing

pub sent : (a : Tape) (x : ℕ) (stopped : Option Fault) (left : Received) (out out' : Outgoing) (line : Line) (method : Method) (messages : List Payload)
    → line_of a x stopped left out ≡ line → WritesCall (Ok tt) method messages out out'
    → SendsCall (Ok tt) method messages line (line_of a x stopped left out')
sent a x stopped left out out' line method messages is written =
    subst (λ (l : Line). SendsCall (Ok tt) method messages l (line_of a x stopped left out')) is (written, refl)

module _ (a : Tape) (x : ℕ) (left : Received) (out out' : Outgoing) (method : Method) (messages : List Payload) (fault : Fault) where
  -- a write failed, or nothing is done
  not_written : (next : Option Fault) → WritesCall (Err fault) method messages out out' → (fault ≡ Transport → next ≡ Some Transport) → (fault ≢ Transport → next ≡ None)
      → WhyNot fault method messages (line_of a x None left out) (line_of a x next left out')
  not_written next (inl e) stops stays = inl (e.0, e.1, ap (λ (n : Option Fault). incoming_of a x (left_of n left)) (stops e.0))
  not_written next (inr (long, unfit, same)) stops stays = inr (inl (long, unfit), untouched (stays other) same)
    where
      other : fault ≢ Transport
      other is = let both : MessageTooLarge ≡ Transport = sym long ∙ is in absurd cc

      untouched : next ≡ None → out' ≡ out → line_of a x next left out' ≡ line_of a x None left out
      untouched none same = rw (none, same) refl

  pub not_sent : (stopped next : Option Fault) (line : Line) → line_of a x stopped left out ≡ line → IsOpen line → WritesCall (Err fault) method messages out out'
      → (fault ≡ Transport → next ≡ Some Transport) → (fault ≢ Transport → next ≡ None)
      → SendsCall (Err fault) method messages line (line_of a x next left out')
  not_sent stopped next line is is_open why stops stays =
      subst (λ (l : Line). WhyNot fault method messages l (line_of a x next left out'))
      (ap (λ (s : Option Fault). line_of a x s left out) (sym (is_none a x stopped left out line is is_open)) ∙ is)
      (not_written next why stops stays)

-- ---- reading

module _ (Answers : Incoming → Incoming → Received → Type 0) (a b : Tape) (x y : ℕ) (stopped : Option Fault) (old new : Received) (out : Outgoing) (line : Line)
    (is : line_of a x stopped old out ≡ line) (is_open : IsOpen line) where
  abbrev Came : Result Received Stop → Type 0
  Came left = (came : List ℕ) × Advances a b came × Answers (incoming_of a x (Ok old)) (incoming_of b y left) (with_more old came)

  none : stopped ≡ None
  none = is_none a x stopped old out line is is_open

  from_open : (next : Line) → Receives Answers (line_of a x None old out) next → Receives Answers line next
  from_open next q = subst (λ (l : Line). Receives Answers l next) (ap (λ (s : Option Fault). line_of a x s old out) (sym none) ∙ is) q

  -- the answer came to its Status
  pub received : Came (Ok new) → Receives Answers line (line_of b y stopped new out)
  received q = subst (λ (s : Option Fault). Receives Answers line (line_of b y s new out)) (sym none) (from_open (line_of b y None new out) (old, refl, q, refl))

  -- or not
  pub stopped_by : (fault : Fault) → Came (stopped_at fault new) → Receives Answers line (line_of b y (Some fault) new out)
  stopped_by fault q = from_open (line_of b y (Some fault) new out) (old, refl, q, refl)

-- ---- a call

module _ {A : Type 0} (method : Method) (messages : List Payload) (Answers : Result A Failure → Incoming → Incoming → Received → Type 0) (old : Line) where
  -- it was written, and this answers it
  pub called : (result : Result A Failure) (mid new : Line) → SendsCall (Ok tt) method messages old mid → Receives (Answers result) mid new → Calls method messages Answers result old new
  called result mid new p q =
      subst (λ (at : Result Received Stop). CallsAt at method messages Answers result old new) (sym was)
      (inl (record {
        written = subst (λ (o : Outgoing). IsWritten method messages old.outgoing o) (sym q.3) p.0;
        came = q.2.0;
        consumed = subst (λ (i : Incoming). Advances i.input new.incoming.input q.2.0) p.1 q.2.1;
        answers = subst (λ (i : Incoming). Answers result i new.incoming (with_more q.0 q.2.0)) p.1 q.2.2;
      }))
    where
      was : old.incoming.left ≡ Ok q.0
      was = ap (λ (i : Incoming). i.left) (sym p.1) ∙ q.1

  -- it was not
  pub not_called : (fault : Fault) (new : Line) → IsOpen old → WhyNot fault method messages old new → Calls method messages Answers (Err (Found fault)) old new
  not_called fault new is_open why =
      subst (λ (at : Result Received Stop). CallsAt at method messages Answers (Err (Found fault)) old new) (sym is_open.1) (inr (fault, refl, why))

  -- memory was refused before
  pub no_memory : IsOpen old → Calls method messages Answers (Err (Found OutOfMemory)) old old
  no_memory is_open = not_called OutOfMemory old is_open (inr (inr refl, refl))

  -- a call before it stopped
  pub stopped_before : (fault : Fault) → HasStopped fault old → Calls method messages Answers (Err (Found fault)) old old
  stopped_before fault is = subst (λ (at : Result Received Stop). CallsAt at method messages Answers (Err (Found fault)) old old) (sym is.1) (refl, refl)

-- ---- what the answer says

module _ {A B : Type 0} (method : Method) (messages : List Payload) (Answers : Result A Failure → Incoming → Incoming → Received → Type 0) (Answers' : Result B Failure → Incoming → Incoming → Received → Type 0)
    (result : Result A Failure) (result' : Result B Failure)
    (answers : (old new : Incoming) (all : Received) → Answers result old new all → Answers' result' old new all)
    (same : (fault : Fault) → result ≡ Err (Found fault) → result' ≡ Err (Found fault)) (old new : Line) where
  said_at : (at : Result Received Stop) → CallsAt at method messages Answers result old new → CallsAt at method messages Answers' result' old new
  said_at (Ok left) (inl p) = inl (record { written = p.written; came = p.came; consumed = p.consumed; answers = answers old.incoming new.incoming (with_more left p.came) p.answers })
  said_at (Ok left) (inr p) = inr (p.0, same p.0 p.1, p.2)
  said_at (Err stop) p = (same stop.fault p.0, p.1)

  said : Calls method messages Answers result old new → Calls method messages Answers' result' old new
  said p = said_at old.incoming.left p

module _ {A : Type 0} (Reads : Result A Fault → Payload → Type 0) (method : Method) (messages : List Payload) (old new : Line) where
  pub call_reads : (message : Payload) (x : A) → Calls method messages AnswersMessage (Ok message) old new → Reads (Ok x) message → Calls method messages (AnswersOne Reads) (Ok x) old new
  call_reads message x p is = said method messages AnswersMessage (AnswersOne Reads) (Ok message) (Ok x) (λ a b all q. reads Reads a b all message x q is) (λ fault e. absurd cc) old new p

  pub call_does_not_read : (message : Payload) (fault : Fault) → Calls method messages AnswersMessage (Ok message) old new → Reads (Err fault) message → Calls method messages (AnswersOne Reads) (Err (Found fault)) old new
  call_does_not_read message fault p is =
      said method messages AnswersMessage (AnswersOne Reads) (Ok message) (Err (Found fault)) (λ a b all q. does_not_read Reads a b all message fault q is) (λ other e. absurd cc) old new p

  pub call_gives_none : (failure : Failure) → Calls method messages AnswersMessage (Err failure) old new → Calls method messages (AnswersOne Reads) (Err failure) old new
  call_gives_none failure p =
      said method messages AnswersMessage (AnswersOne Reads) (Err failure) (Err failure) (λ a b all q. gives_none Reads a b all failure q) (λ fault e. same fault (Err failure) (Err failure) refl refl e) old new p
    where
      same : (fault : Fault) (one : Result Payload Failure) (other : Result A Failure) → one ≡ Err failure → other ≡ Err failure → one ≡ Err (Found fault) → other ≡ Err (Found fault)
      same fault one other p q e = cc
