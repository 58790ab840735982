-- What has come of an input while a record was waited for.
use Rattle.std.proofs.Common.{◌≡◌, ℕ, List, [], ◌++◌, ◌⊎◌, Err, refl, inl, inr, sym, ap, subst, ◌∙◌, append-nil}
use Rattle.scan_base.specs.declared.fault.Fault.{Fault}
use Rattle.scan_base.specs.declared.fault.Fault.TheVariants.{OutOfMemory, Transport}
use Rattle.grpc_frame.specs.Records.{Received, with_more, Leads, IsCut}
use Rattle.grpc_frame.specs.declared.record.Record.{Record}
use Rattle.grpc_frame.specs.Arrivals.{Arrives, IsSound, IsReason}
use Rattle.grpc_frame.specs.Ends.{Advances, Tape}
use Rattle.grpc_frame.specs.inside.Reads.{TakesIn}
use Rattle.grpc_frame.specs.Front.{Faulty, Whole, front_of}
use Rattle.grpc_frame.specs.Calls.{TakesFront, KeepsProfile}
use Rattle.grpc_frame.proofs.Again.{leads_front, breaks_front}
use Rattle.grpc_frame.proofs.Splitting.{no_break}
use Rattle.grpc_frame.proofs.Tapes.{Advances-trans}

-- these bytes came, and nothing was taken out
pub record Came (tape tape' : Tape) (old new : Received) : Type 0 where
  pub came : List ℕ
  pub consumed : Advances tape tape' came
  pub whole : new ≡ with_more old came

-- where a record stands in front, no flaw does
front_sound : (left rest : Received) (found : Record) → front_of left ≡ Whole found rest → IsSound left
front_sound left rest found front = λ fault breaks. differ fault (sym (breaks_front left fault breaks) ∙ front)
  where
    differ : (fault : Fault) → Faulty fault ≡ Whole found rest → ⊥
    differ fault e = cc

-- a piece was not taken in, while more had to come
pub not_taken : (a b c : Tape) (old mid new : Received) (fault : Fault) → Came a b old mid → IsCut mid → (more : List ℕ) × Advances b c more × TakesIn (Err fault) mid new more
    → (came : List ℕ) × Advances a c came × Arrives (Err fault) old new came
not_taken a b c old mid new fault p is_cut q = (p.came ++ q.0, Advances-trans a b c p.came q.0 p.consumed q.1, (q.2.1.0 ∙ all_came q.2.1.1, why q.2.0))
  where
    all_came : q.0 ≡ [] → mid ≡ with_more old (p.came ++ q.0)
    all_came none = p.whole ∙ ap (λ (came : List ℕ). with_more old came) (sym (append-nil p.came) ∙ ap (λ (l : List ℕ). p.came ++ l) (sym none))

    still_cut : IsCut new
    still_cut = subst IsCut (sym q.2.1.0) is_cut

    why : ((fault ≡ Transport) ⊎ (fault ≡ OutOfMemory)) → IsReason fault new
    why (inl e) = inl (e, still_cut)
    why (inr e) = inr (inl (e, still_cut.no_flaw))

-- no flaw stands before a record
pub led_sound : (left rest : Received) (found : Record) → Leads found left rest → IsSound left
led_sound left rest found leads = front_sound left rest found (leads_front found left rest leads)

-- nor where nothing came
pub none_sound : (left : Received) → left.bytes ≡ [] → IsSound left
none_sound left none = λ fault breaks. no_break left fault none breaks

-- no record was taken, of a flaw or since memory was refused
pub not_next : (a b : Tape) (old mid new : Received) (fault : Fault) → Came a b old mid → TakesFront (Err fault) mid new → KeepsProfile (Err fault) mid new
    → (came : List ℕ) × Advances a b came × Arrives (Err fault) old new came
not_next a b old mid new fault p front profile = (p.came, p.consumed, (front.2 ∙ p.whole, subst (IsReason fault) (sym front.2) (why fault front profile)))
  where
    why : (fault : Fault) → TakesFront (Err fault) mid new → KeepsProfile (Err fault) mid new → IsReason fault mid
    why OutOfMemory front profile = let found = front.1 refl in inr (inl (refl, front_sound mid found.1 found.0 found.2))
    why fault front profile = inr (inr (profile.0 (λ e. cc)))
