-- The function on bytes and the words of the profile are one.
use Rattle.std.proofs.Common.{◌≡◌, ℕ, List, ◌++◌, Option, Some, None, Result, Ok, Err, refl, sym, ap, ◌∙◌, append_assoc}
use Rattle.grpc_frame.specs.declared.record.Record.{Record}
use Rattle.scan_base.specs.declared.fault.Fault.{Fault}
use Rattle.grpc_frame.specs.Records.{Received, with_more, Leads, shown_by, Breaks, IsCut}
use Rattle.grpc_frame.specs.Head.{AreBytes}
use Rattle.grpc_frame.specs.Arrivals.{IsSound}
use Rattle.grpc_frame.specs.declared.head.Head.{Head}
use Rattle.grpc_frame.specs.Front.{Front, Wanting, Faulty, Whole, front_of, FindsFront}
use Rattle.grpc_frame.specs.Calls.{TakesFront, KeepsProfile}
use Rattle.grpc_frame.specs.Laws.{FrontKeepsProfile}
use Rattle.grpc_frame.proofs.Again.{leads_front, breaks_front}
use Rattle.grpc_frame.proofs.Stands.{FrontIs, front_is}

pub whole_leads : (left : Received) (found : Record) (rest : Received) → AreBytes left.bytes → front_of left ≡ Whole found rest → Leads found left rest
whole_leads left found rest fits e = let is : FrontIs left (front_of left) = front_is left.place left.bytes fits in rw e at is

pub faulty_breaks : (left : Received) (fault : Fault) → AreBytes left.bytes → front_of left ≡ Faulty fault → Breaks left fault
faulty_breaks left fault fits e = let is : FrontIs left (front_of left) = front_is left.place left.bytes fits in rw e at is

pub wanting_cut : (left : Received) → front_of left ≡ Wanting → IsCut left
wanting_cut left e = record {
  no_record = λ found rest leads. absurd (let is = leads_front found left rest leads in cc);
  no_flaw = λ fault breaks. absurd (let is = breaks_front left fault breaks in cc);
}

cut_wanting : (left : Received) → AreBytes left.bytes → IsCut left → front_of left ≡ Wanting
cut_wanting left fits cut = by (front_of left) refl
  where
    by : (front : Front) → front_of left ≡ front → front_of left ≡ Wanting
    by Wanting e = e
    by (Faulty fault) e = absurd (cut.no_flaw fault (faulty_breaks left fault fits e))
    by (Whole found rest) e = absurd (cut.no_record found rest (whole_leads left found rest fits e))

pub front_keeps : (left : Received) → AreBytes left.bytes → FrontKeepsProfile left
front_keeps left fits = record {
  whole = λ found rest. (whole_leads left found rest fits, leads_front found left rest);
  faulty = λ fault. (faulty_breaks left fault fits, breaks_front left fault);
  wanting = (wanting_cut left, cut_wanting left fits);
}

-- what a look at the front found, in the words of the profile
pub found_sound : (left : Received) (found : Option Head) → FindsFront (Ok found) left → IsSound left
found_sound left None finds = (wanting_cut left finds).no_flaw
found_sound left (Some head) finds = λ fault breaks. absurd (let faulty = breaks_front left fault breaks in let whole = finds.2 in cc)

pub found_flaw : (left : Received) (fault : Fault) → AreBytes left.bytes → FindsFront (Err fault) left → Breaks left fault
found_flaw left fault fits finds = faulty_breaks left fault fits finds.1

-- what a call of `next` gave, in the words of the profile
pub next_keeps : (r : Result (Option Record) Fault) (old new : Received) → AreBytes old.bytes → TakesFront r old new → KeepsProfile r old new
next_keeps (Ok (Some found)) old new fits takes = whole_leads old found new fits takes
next_keeps (Ok None) old new fits takes = (wanting_cut old takes.0, takes.1)
next_keeps (Err fault) old new fits takes = (
  (λ ne. faulty_breaks old fault fits (takes.0 ne)),
  (λ e. let whole = takes.1 e in (whole.0, whole.1, whole_leads old whole.0 whole.1 fits whole.2)),
  takes.2,
)

-- where a fault stood in front, it is answered whatever was fed
pub fault_stays : (old new : Received) (more : List ℕ) (fault : Fault) (answer : Result (Option Record) Fault) → Breaks old fault → TakesFront answer (with_more old more) new → (answer ≡ Err fault) × (new ≡ with_more old more)
fault_stays old new more fault answer breaks = by answer
  where
    stays : front_of (with_more old more) ≡ Faulty fault
    stays = breaks_front (with_more old more) fault (record {
      flaw = breaks.flaw;
      rest = breaks.rest ++ more;
      whole = ap (λ (b : List ℕ). b ++ more) breaks.whole ∙ append_assoc (shown_by breaks.flaw) breaks.rest more;
      is_flaw = breaks.is_flaw;
      fault_is = breaks.fault_is;
    })

    same : (other : Fault) → front_of (with_more old more) ≡ Faulty other → other ≡ fault
    same other e = let both : Faulty other ≡ Faulty fault = sym e ∙ stays in cc

    by : (answer : Result (Option Record) Fault) → TakesFront answer (with_more old more) new → (answer ≡ Err fault) × (new ≡ with_more old more)
    by (Ok (Some found)) takes = absurd (let both = stays in cc)
    by (Ok None) takes = absurd (let both = stays in let w = takes.0 in cc)
    by (Err other) takes = (ap (λ (f : Fault). Err f) (same other (met other takes)), takes.2)
      where
        met : (other : Fault) → TakesFront (Err other) (with_more old more) new → front_of (with_more old more) ≡ Faulty other
        met other takes = takes.0 (λ e. let whole = takes.1 e in let both = stays in let w = whole.2 in absurd cc)
