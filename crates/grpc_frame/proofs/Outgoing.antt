-- Bytes that a sender sends.
use Rattle.std.proofs.Common.{◌≡◌, ℕ, ◌+◌, List, [], ◌++◌, Option, refl, sym, ap, subst, ◌∙◌, append_assoc, append-nil, arith}
use Rattle.std.specs.Prelude.{Result, Ok, Err}
use Rattle.std.specs.Io.KnownBytes.{Appends}
use Rattle.std.proofs.KnownBytes.{Appends-nil, Appends-trans}
use Rattle.scan_base.specs.declared.fault.Fault.{Fault}
use Rattle.grpc_frame.specs.Ends.{AppendsBeginning, CanFail, CountsFailure, FailsByTransport, Writes}
use Rattle.grpc_frame.specs.Outgoing.{CountsUp, HasFailed, IsBroken, IsQuiet, IsSent, KeepsCount, Outgoing, SendsAll, one_more}
use Rattle.grpc_frame.proofs.Growing.{beginning_of_head, beginning_of_content, no_beginning}

-- no write failed in two stretches
pub quiet_then : (a b c : Outgoing) → IsQuiet a b → IsQuiet b c → IsQuiet a c
quiet_then a b c p q = record { writer = q.writer ∙ p.writer; failures = q.failures ∙ p.failures }

-- one failed in the second
pub failed_then : (a b c : Outgoing) → IsQuiet a b → HasFailed b c → HasFailed a c
failed_then a b c p q = record {
  writer = q.writer ∙ p.writer;
  failures = q.failures ∙ ap one_more p.failures;
  none = q.none;
}

-- the one failure was counted, where it could be
pub one_more_is : (n : ℕ) → CanFail n → one_more n ≡ n + 1
one_more_is n can = omega arith

pub failed_once : (a b c : Outgoing) → CanFail a.failures → IsQuiet a b → HasFailed b c → c.failures ≡ a.failures + 1
failed_once a b c can p q = q.failures ∙ ap one_more p.failures ∙ one_more_is a.failures can

-- nothing was sent
pub none_sent : (a : Outgoing) → IsSent a a []
none_sent a = record {
  quiet = record { writer = refl; failures = refl };
  written = [];
  wrote = Appends-nil a.held;
  whole = sym (append-nil a.waiting);
}

-- the first part of the bytes was not sent
pub head_broken : (a b : Outgoing) (head content : List ℕ) → IsBroken a b head → IsBroken a b (head ++ content)
head_broken a b head content p = record {
  failed = p.failed;
  begun = subst (AppendsBeginning a.held b.held) (append_assoc a.waiting head content)
      (beginning_of_head a.held b.held (a.waiting ++ head) content p.begun);
}

-- it was, and so was the second
pub sent_then : (a b c : Outgoing) (head content : List ℕ) → IsSent a b head → IsSent b c content → IsSent a c (head ++ content)
sent_then a b c head content p q = record {
  quiet = quiet_then a b c p.quiet q.quiet;
  written = p.written ++ q.written;
  wrote = Appends-trans a.held b.held c.held p.written q.written p.wrote q.wrote;
  whole = append_assoc p.written q.written c.waiting ∙ ap (λ (l : List ℕ). p.written ++ l) q.whole
      ∙ sym (append_assoc p.written b.waiting content) ∙ ap (λ (l : List ℕ). l ++ content) p.whole ∙ append_assoc a.waiting head content;
}

-- the second was not
pub broken_then : (a b c : Outgoing) (head content : List ℕ) → IsSent a b head → IsBroken b c content → IsBroken a c (head ++ content)
broken_then a b c head content p q = record {
  failed = failed_then a b c p.quiet q.failed;
  begun = subst (AppendsBeginning a.held c.held) both (beginning_of_content a.held b.held c.held p.written (b.waiting ++ content) p.wrote q.begun);
}
  where
    both : p.written ++ (b.waiting ++ content) ≡ a.waiting ++ (head ++ content)
    both = sym (append_assoc p.written b.waiting content) ∙ ap (λ (l : List ℕ). l ++ content) p.whole ∙ append_assoc a.waiting head content

pub sends_then : {A : Type 0} (r : Result A Fault) (a b c : Outgoing) (head content : List ℕ) → IsSent a b head → SendsAll r b c content → SendsAll r a c (head ++ content)
sends_then (Ok x) a b c head content p q = sent_then a b c head content p q
sends_then (Err e) a b c head content p q = (q.0, broken_then a b c head content p q.1)

-- they were sent, and then nothing more, as what waited was written
pub then_flushed : {A : Type 0} (r : Result A Fault) (a b c : Outgoing) (bytes : List ℕ) → IsSent a b bytes → SendsAll r b c [] → SendsAll r a c bytes
then_flushed r a b c bytes p q = subst (SendsAll r a c) (append-nil bytes) (sends_then r a b c bytes [] p q)

-- what waited was written, and then they were sent
pub flushed_then : {A : Type 0} (r : Result A Fault) (a b c : Outgoing) (bytes : List ℕ) → IsSent a b [] → SendsAll r b c bytes → SendsAll r a c bytes
flushed_then r a b c bytes p q = sends_then r a b c [] bytes p q

-- or not
pub not_flushed : (a b : Outgoing) (bytes : List ℕ) → IsBroken a b [] → IsBroken a b bytes
not_flushed a b bytes p = head_broken a b [] bytes p

-- what is sent or not is counted
pub keeps_count : {A : Type 0} (r : Result A Fault) (a b : Outgoing) (bytes : List ℕ) → SendsAll r a b bytes → KeepsCount r a b
keeps_count (Ok x) a b bytes p = p.quiet
keeps_count (Err e) a b bytes p = (p.0, p.1.failed)

-- also where nothing failed before
pub counts_then : {A : Type 0} (r : Result A Fault) (a b c : Outgoing) → IsQuiet a b → KeepsCount r b c → KeepsCount r a c
counts_then (Ok x) a b c p q = quiet_then a b c p q
counts_then (Err e) a b c p q = (q.0, failed_then a b c p q.1)

-- where nothing waited before and after, all that was sent is written, or a beginning of it

pub all_written : (a b : Outgoing) (bytes : List ℕ) → a.waiting ≡ [] → b.waiting ≡ [] → IsSent a b bytes → Appends a.held b.held bytes
all_written a b bytes before after p =
    subst (Appends a.held b.held) (sym (append-nil p.written) ∙ ap (λ (l : List ℕ). p.written ++ l) (sym after) ∙ p.whole ∙ ap (λ (l : List ℕ). l ++ bytes) before) p.wrote

pub begun_written : (a b : Outgoing) (bytes : List ℕ) → a.waiting ≡ [] → IsBroken a b bytes → AppendsBeginning a.held b.held bytes
begun_written a b bytes before p = subst (AppendsBeginning a.held b.held) (ap (λ (l : List ℕ). l ++ bytes) before) p.begun

pub writes_all : {A : Type 0} (r : Result A Fault) (a b : Outgoing) (bytes : List ℕ) (old new : Option (List ℕ)) → SendsAll r a b bytes → a.waiting ≡ [] → b.waiting ≡ [] → a.held ≡ old → b.held ≡ new → Writes r old new bytes
writes_all (Ok x) a b bytes old new p before after begins ends = rw (← begins, ← ends) (all_written a b bytes before after p)
writes_all (Err e) a b bytes old new p before after begins ends = rw (← begins, ← ends) (begun_written a b bytes before p.1)

-- and a failure is counted, where it can be
pub counts_failure : {A : Type 0} (r : Result A Fault) (a b : Outgoing) (bytes : List ℕ) (old new : ℕ) → SendsAll r a b bytes → CanFail old → a.failures ≡ old → b.failures ≡ new → CountsFailure r old new
counts_failure (Ok x) a b bytes old new p can begins ends = sym ends ∙ p.quiet.failures ∙ begins
counts_failure (Err e) a b bytes old new p can begins ends = sym ends ∙ p.1.failed.failures ∙ ap one_more begins ∙ one_more_is old can

pub fails_by : {A : Type 0} (r : Result A Fault) (a b : Outgoing) (bytes : List ℕ) → SendsAll r a b bytes → FailsByTransport r
fails_by (Ok x) a b bytes p = tt
fails_by (Err e) a b bytes p = p.0

-- ---- one call

-- these bytes wait
pub gathered : (a b : Outgoing) (bytes : List ℕ) → b.writer ≡ a.writer → b.held ≡ a.held → b.failures ≡ a.failures → b.waiting ≡ a.waiting ++ bytes → IsSent a b bytes
gathered a b bytes writer held failures waiting = record {
  quiet = record { writer = writer; failures = failures };
  written = [];
  wrote = subst (λ (c : Option (List ℕ)). Appends a.held c []) (sym held) (Appends-nil a.held);
  whole = waiting;
}

-- what waited was written
pub waiting_written : {A : Type 0} (r : Result A Fault) (a b : Outgoing) → b.writer ≡ a.writer → Writes r a.held b.held a.waiting → CountsUp r a.failures b.failures → FailsByTransport r
    → b.waiting ≡ [] → SendsAll r a b []
waiting_written (Ok x) a b writer wrote counted kind none = record {
  quiet = record { writer = writer; failures = counted };
  written = a.waiting;
  wrote = wrote;
  whole = ap (λ (l : List ℕ). a.waiting ++ l) none;
}
waiting_written (Err e) a b writer begun counted kind none = (
  kind,
  record {
    failed = record { writer = writer; failures = counted; none = none };
    begun = beginning_of_head a.held b.held a.waiting [] begun;
  },
)

-- nothing waited, and a part was written as it lies
pub part_written : {A : Type 0} (r : Result A Fault) (a b : Outgoing) (part : List ℕ) → b.writer ≡ a.writer → Writes r a.held b.held part → CountsUp r a.failures b.failures → FailsByTransport r
    → a.waiting ≡ [] → b.waiting ≡ a.waiting → SendsAll r a b part
part_written (Ok x) a b part writer wrote counted kind none same = record {
  quiet = record { writer = writer; failures = counted };
  written = part;
  wrote = wrote;
  whole = ap (λ (l : List ℕ). part ++ l) (same ∙ none) ∙ append-nil part ∙ ap (λ (l : List ℕ). l ++ part) (sym none);
}
part_written (Err e) a b part writer begun counted kind none same = (
  kind,
  record {
    failed = record { writer = writer; failures = counted; none = same ∙ none };
    begun = subst (AppendsBeginning a.held b.held) (ap (λ (l : List ℕ). l ++ part) (sym none)) begun;
  },
)

-- nothing waited, and the other end was looked at
pub looked : {A : Type 0} (r : Result A Fault) (a b : Outgoing) → b.writer ≡ a.writer → b.held ≡ a.held → CountsUp r a.failures b.failures → FailsByTransport r
    → a.waiting ≡ [] → b.waiting ≡ a.waiting → SendsAll r a b []
looked (Ok x) a b writer held counted kind none same = gathered a b [] writer held counted (same ∙ sym (append-nil a.waiting))
looked (Err e) a b writer held counted kind none same = (
  kind,
  record {
    failed = record { writer = writer; failures = counted; none = same ∙ none };
    begun = subst (λ (c : Option (List ℕ)). AppendsBeginning a.held c (a.waiting ++ [])) (sym held) (no_beginning a.held (a.waiting ++ []));
  },
)

-- parts that are sent one after the other
pub ruleset outgoing = (head_broken, sends_then, then_flushed, flushed_then, not_flushed, gathered, waiting_written, part_written, looked)

-- the count of their failures
pub ruleset counts = (keeps_count, counts_then, quiet_then, failed_then)

-- a sender that gives its writer back
pub ruleset ended = (writes_all, counts_failure, fails_by)
