-- Whole streams.
use Rattle.std.proofs.Common.{◌≡◌, ◌≢◌, ℕ, zero, suc, ◌+◌, ◌<◌, List, [], ◌∷◌, ◌++◌, length, Option, Some, None, refl, sym, ap, ◌∙◌, append_assoc, arith}
use Rattle.std.specs.List.{AllByRecursion, flat_map}
use Rattle.std.specs.Option.{option_and_then}
use Rattle.std.proofs.lemmas.Grind.{flat_map-append}
use Rattle.std.proofs.lemmas.List.{length-append, get_or-append-add}
use Rattle.std.proofs.lemmas.List.Elements.{recursion_from_All, All-from_recursion, All-append}
use Rattle.scan_base.specs.declared.fault.Fault.{Fault}
use Rattle.grpc_frame.specs.declared.place.Place.{Place}
use Rattle.grpc_frame.specs.declared.record.Record.{Record}
use Rattle.grpc_frame.specs.declared.record.Record.TheVariants.{Open, Message, End, Status}
use Rattle.grpc_frame.specs.Records.{Received, with_more, spelling, IsRecord, place_after, place_after_all, Leads, wrong_kind, long_path, wrong_flag, long_message, bad_text, shown_by, Flaw, Breaks, IsCut, Ending, nothing_more, cut, broken, Ends, Splits}
use Rattle.grpc_frame.specs.Head.{AreBytes}
use Rattle.grpc_frame.specs.Front.{Front, Wanting, Faulty, Whole, front_of}
use Rattle.grpc_frame.proofs.Again.{at, leads_front, breaks_front}
use Rattle.grpc_frame.proofs.Stands.{FrontIs, front_is}
use Rattle.grpc_frame.proofs.Streams.{wanting_cut}

-- ---- at most one

-- a record has a byte, and so has what shows a flaw

spelling_some : (found : Record) (rest : List ℕ) → [] ≢ spelling found ++ rest
spelling_some (Open path) rest e = cc
spelling_some (Message message) rest e = cc
spelling_some End rest e = cc
spelling_some (Status code text) rest e = cc

shown_some : (flaw : Flaw) (rest : List ℕ) → [] ≢ shown_by flaw ++ rest
shown_some (wrong_kind kind) rest e = cc
shown_some (long_path len) rest e = cc
shown_some (wrong_flag flag) rest e = cc
shown_some (long_message len) rest e = cc
shown_some (bad_text code text) rest e = cc

-- no record stands in front of how a stream ends
no_lead : (left rest : Received) (ending : Ending) (found : Record) → Ends left ending → Leads found left rest → ⊥
no_lead left rest nothing_more found ends leads = spelling_some found rest.bytes (sym ends ∙ leads.whole)
no_lead left rest cut found ends leads = ends.1.no_record found rest leads
no_lead left rest (broken fault) found ends leads =
    let a = leads_front found left rest leads in
    let b = breaks_front left fault ends in
    cc

-- nothing, and a flaw
pub no_break : (left : Received) (fault : Fault) → left.bytes ≡ [] → Breaks left fault → ⊥
no_break left fault none breaks = shown_some breaks.flaw breaks.rest (sym none ∙ breaks.whole)

-- a stream ends in one way
one_ending : (left : Received) (ending last : Ending) → Ends left ending → Ends left last → ending ≡ last
one_ending left nothing_more nothing_more p q = refl
one_ending left nothing_more cut p q = absurd (q.0 p)
one_ending left nothing_more (broken fault) p q = absurd (no_break left fault p q)
one_ending left cut nothing_more p q = absurd (p.0 q)
one_ending left cut cut p q = refl
one_ending left cut (broken fault) p q = absurd (p.1.no_flaw fault q)
one_ending left (broken fault) nothing_more p q = absurd (no_break left fault q p)
one_ending left (broken fault) cut p q = absurd (q.1.no_flaw fault p)
one_ending left (broken fault) (broken other) p q =
    let a = breaks_front left fault p in
    let b = breaks_front left other q in
    let same : Faulty fault ≡ Faulty other = sym a ∙ b in
    cc

-- the place after the first record
record Moves (place : Place) (first : Record) (records : List Record) (after : Place) : Type 0 where
  next : Place
  first_moves : place_after place first ≡ Some next
  others_move : place_after_all next records ≡ Some after

moves_on : (place : Place) (first : Record) (records : List Record) (after : Place) → place_after_all place (first ∷ records) ≡ Some after → Moves place first records after
moves_on place first records after e = by (place_after place first) refl e
  where
    by : (o : Option Place) → place_after place first ≡ o → option_and_then (λ next. place_after_all next records) o ≡ Some after → Moves place first records after
    by None is e = absurd cc
    by (Some next) is e = record { next = next; first_moves = is; others_move = e }

-- how a list of records stands at a place, with what is left after it
record Stands (place : Place) (bytes : List ℕ) (records : List Record) (left : Received) (ending : Ending) : Type 0 where
  whole : bytes ≡ flat_map spelling records ++ left.bytes
  each : AllByRecursion IsRecord records
  places : place_after_all place records ≡ Some left.place
  ends : Ends left ending

-- the first record of some
first_leads : (place : Place) (bytes : List ℕ) (first : Record) (records : List Record) (left : Received) (ending : Ending) (s : Stands place bytes (first ∷ records) left ending) (m : Moves place first records left.place)
    → Leads first (at place bytes) (at m.next (flat_map spelling records ++ left.bytes))
first_leads place bytes first records left ending s m = record {
  whole = s.whole ∙ append_assoc (spelling first) (flat_map spelling records) left.bytes;
  fits = s.each.0;
  moves = m.first_moves;
}

-- the records after the first
others_stand : (place : Place) (bytes : List ℕ) (first : Record) (records : List Record) (left : Received) (ending : Ending) (s : Stands place bytes (first ∷ records) left ending) (m : Moves place first records left.place)
    → Stands m.next (flat_map spelling records ++ left.bytes) records left ending
others_stand place bytes first records left ending s m = record { whole = refl; each = s.each.1; places = m.others_move; ends = s.ends }

record Same (records others : List Record) (left rest : Received) (ending last : Ending) : Type 0 where
  lists : records ≡ others
  rests : left ≡ rest
  endings : ending ≡ last

received_same : (left rest : Received) → left.bytes ≡ rest.bytes → left.place ≡ rest.place → left ≡ rest
received_same left rest b p = ap (λ (bytes : List ℕ). at left.place bytes) b ∙ ap (λ (place : Place). at place rest.bytes) p

one_split : (place : Place) (bytes : List ℕ) (records others : List Record) (left rest : Received) (ending last : Ending) → Stands place bytes records left ending → Stands place bytes others rest last → Same records others left rest ending last
one_split place bytes [] [] left rest ending last s t =
    let placed : Some left.place ≡ Some rest.place = sym s.places ∙ t.places in
    let place_is : left.place ≡ rest.place = cc in
    let same : left ≡ rest = received_same left rest (sym s.whole ∙ t.whole) place_is in
    let ends : Ends rest ending = rw same at s.ends in
    record { lists = refl; rests = same; endings = one_ending rest ending last ends t.ends }
one_split place bytes [] (other ∷ others) left rest ending last s t =
    let m = moves_on place other others rest.place t.places in
    let leads = first_leads place bytes other others rest last t m in
    let placed : Some place ≡ Some left.place = s.places in
    let place_is : place ≡ left.place = cc in
    let here : at place bytes ≡ left = received_same (at place bytes) left s.whole place_is in
    absurd (no_lead left _ ending other s.ends (rw here at leads))
one_split place bytes (first ∷ records) [] left rest ending last s t =
    let m = moves_on place first records left.place s.places in
    let leads = first_leads place bytes first records left ending s m in
    let placed : Some place ≡ Some rest.place = t.places in
    let place_is : place ≡ rest.place = cc in
    let here : at place bytes ≡ rest = received_same (at place bytes) rest t.whole place_is in
    absurd (no_lead rest _ last first t.ends (rw here at leads))
one_split place bytes (first ∷ records) (other ∷ others) left rest ending last s t =
    let m = moves_on place first records left.place s.places in
    let n = moves_on place other others rest.place t.places in
    let a = leads_front first (at place bytes) _ (first_leads place bytes first records left ending s m) in
    let b = leads_front other (at place bytes) _ (first_leads place bytes other others rest last t n) in
    let both : Whole first (at m.next (flat_map spelling records ++ left.bytes)) ≡ Whole other (at n.next (flat_map spelling others ++ rest.bytes)) = sym a ∙ b in
    let heads : first ≡ other = cc in
    let behind : at m.next (flat_map spelling records ++ left.bytes) ≡ at n.next (flat_map spelling others ++ rest.bytes) = cc in
    let bytes_same : flat_map spelling records ++ left.bytes ≡ flat_map spelling others ++ rest.bytes = ap (λ (r : Received). r.bytes) behind in
    let place_same : m.next ≡ n.next = ap (λ (r : Received). r.place) behind in
    let mine = others_stand place bytes first records left ending s m in
    let theirs : Stands m.next (flat_map spelling records ++ left.bytes) others rest last = rw (place_same, bytes_same) (others_stand place bytes other others rest last t n) in
    let more = one_split m.next (flat_map spelling records ++ left.bytes) records others left rest ending last mine theirs in
    record { lists = rw (heads, more.lists) refl; rests = more.rests; endings = more.endings }

stands : (all : Received) (records : List Record) (left : Received) (ending : Ending) → Splits all records left ending → Stands all.place all.bytes records left ending
stands all records left ending s = record { whole = s.whole; each = recursion_from_All IsRecord records s.each; places = s.places; ends = s.ends }

pub at_most_one : (all : Received) (records others : List Record) (left rest : Received) (ending last : Ending) → Splits all records left ending → Splits all others rest last → (records ≡ others) × (left ≡ rest) × (ending ≡ last)
at_most_one all records others left rest ending last s t =
    let same = one_split all.place all.bytes records others left rest ending last (stands all records left ending s) (stands all others rest last t) in
    (same.lists, same.rests, same.endings)

-- ---- and there is one

record SplitsSo (place : Place) (bytes : List ℕ) : Type 0 where
  records : List Record
  left : Received
  ending : Ending
  stand : Stands place bytes records left ending

-- what is left after some bytes
bytes_behind : (front rest : List ℕ) → AreBytes (front ++ rest) → AreBytes rest
bytes_behind front rest fits i = rw (← get_or-append-add front rest i 0) (fits (length front + i))

spelling_long : (found : Record) (rest : List ℕ) → length rest < length (spelling found ++ rest)
spelling_long (Open path) rest = rw (length-append (spelling (Open path)) rest) (omega arith)
spelling_long (Message message) rest = rw (length-append (spelling (Message message)) rest) (omega arith)
spelling_long End rest = omega arith
spelling_long (Status code text) rest = rw (length-append (spelling (Status code text)) rest) (omega arith)

ends_here : (place : Place) (bytes : List ℕ) (ending : Ending) → Ends (at place bytes) ending → SplitsSo place bytes
ends_here place bytes ending ends = record {
  records = [];
  left = at place bytes;
  ending = ending;
  stand = record { whole = refl; each = tt; places = refl; ends = ends };
}

-- where more is wanted
wants : (place : Place) (bytes : List ℕ) → IsCut (at place bytes) → SplitsSo place bytes
wants place [] is = ends_here place [] nothing_more refl
wants place (kind ∷ bytes) is = ends_here place (kind ∷ bytes) cut ((λ e. cc), is)

-- the first record, and then those of the rest
goes_on : (place : Place) (bytes : List ℕ) (first : Record) (rest : Received) → Leads first (at place bytes) rest → SplitsSo rest.place rest.bytes → SplitsSo place bytes
goes_on place bytes first rest leads more = record {
  records = first ∷ more.records;
  left = more.left;
  ending = more.ending;
  stand = record {
    whole = leads.whole ∙ ap (λ (t : List ℕ). spelling first ++ t) more.stand.whole ∙ sym (append_assoc (spelling first) (flat_map spelling more.records) more.left.bytes);
    each = (leads.fits, more.stand.each);
    places = ap (λ o. option_and_then (λ next. place_after_all next more.records) o) leads.moves ∙ more.stand.places;
    ends = more.stand.ends;
  };
}

-- by what stands in front, where what is shorter splits
split_by : (place : Place) (bytes : List ℕ) (front : Front) → AreBytes bytes → ((place : Place) (shorter : List ℕ) → length shorter < length bytes → AreBytes shorter → SplitsSo place shorter)
    → front_of (at place bytes) ≡ front → FrontIs (at place bytes) front → SplitsSo place bytes
split_by place bytes Wanting fits shorter e is = wants place bytes (wanting_cut (at place bytes) e)
split_by place bytes (Faulty fault) fits shorter e is = ends_here place bytes (broken fault) is
split_by place bytes (Whole found rest) fits shorter e leads =
    let all_bytes : AreBytes (spelling found ++ rest.bytes) = rw leads.whole at fits in
    let longer : length rest.bytes < length (spelling found ++ rest.bytes) = spelling_long found rest.bytes in
    let lengths : length bytes ≡ length (spelling found ++ rest.bytes) = ap (λ (t : List ℕ). length t) leads.whole in
    goes_on place bytes found rest leads (shorter rest.place rest.bytes (omega arith) (bytes_behind (spelling found) rest.bytes all_bytes))

split_within : (most : ℕ) (place : Place) (bytes : List ℕ) → length bytes < most → AreBytes bytes → SplitsSo place bytes
split_within zero place bytes short fits = absurd (omega arith)
split_within (suc most) place bytes short fits =
    split_by place bytes (front_of (at place bytes)) fits (λ next shorter less are. split_within most next shorter (omega arith) are) refl (front_is place bytes fits)

pub each_one : (all : Received) → AreBytes all.bytes → (records : List Record) × (left : Received) × (ending : Ending) × Splits all records left ending
each_one all fits =
    let s = split_within (suc (length all.bytes)) all.place all.bytes (omega arith) fits in
    (s.records, s.left, s.ending, record { whole = s.stand.whole; each = All-from_recursion IsRecord s.records s.stand.each; places = s.stand.places; ends = s.stand.ends })

-- ---- pieces

pub place_after_all-append : (place mid : Place) (records others : List Record) → place_after_all place records ≡ Some mid → place_after_all place (records ++ others) ≡ place_after_all mid others
place_after_all-append place mid [] others e = let here : place ≡ mid = cc in rw here refl
place_after_all-append place mid (first ∷ records) others e =
    let m = moves_on place first records mid e in
    rw m.first_moves (place_after_all-append m.next mid records others m.others_move)

pub splits_join : (all left rest : Received) (records others : List Record) (ending last : Ending) (more : List ℕ) → Splits all records left ending → Splits (with_more left more) others rest last → Splits (with_more all more) (records ++ others) rest last
splits_join all left rest records others ending last more s t = record {
  whole = ap (λ (b : List ℕ). b ++ more) s.whole
      ∙ append_assoc (flat_map spelling records) left.bytes more
      ∙ ap (λ (b : List ℕ). flat_map spelling records ++ b) t.whole
      ∙ sym (append_assoc (flat_map spelling records) (flat_map spelling others) rest.bytes)
      ∙ ap (λ (b : List ℕ). b ++ rest.bytes) (sym (flat_map-append spelling records others));
  each = All-append IsRecord records others s.each t.each;
  places = place_after_all-append all.place left.place records others s.places ∙ t.places;
  ends = t.ends;
}
