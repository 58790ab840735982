-- What reading tells is what parsing answers.
use Rattle.std.proofs.Common.{◌≡◌, ◌≢◌, ℕ, ◌+◌, ◌-◌, ◌≤◌, true, false, inl, inr, List, [], ◌∷◌, ◌++◌, length}
use Rattle.std.proofs.Common.{take, drop, map, Some, Ok, Err, refl, sym, ◌∙◌, ap, subst, arith, Fits, w32, append-nil}
use Rattle.std.specs.Prelude.{Result}
use Rattle.scan_base.specs.declared.fault.Fault.{Fault}
use Rattle.scan_base.specs.declared.fault.Fault.TheVariants.{BadSql, LimitReached, NotInSubset}
use Rattle.sql_text.specs.declared.token.Token.{Token}
use Rattle.grammar.specs.Reading.{Outcome, Read, Stuck, Over, reads, read}
use Rattle.grammar.proofs.Determined.{wholly}
use Rattle.grammar.specs.Rule.{Language, Spells, Nested, Any}
use Rattle.grammar.specs.Sentence.{Begins, Offends}
use Rattle.grammar.proofs.Telling.{Exceeds, Tells}
use Rattle.grammar.proofs.Laws.{Within}
use Rattle.sql_parse.specs.declared.refusal.Refusal.{Refusal}
use Rattle.sql_parse.specs.declared.refusal.Refusal.TheVariants as refusal
use Rattle.sql_parse.specs.Answers.{seen, Gives}
use Rattle.sql_parse.specs.QuerySteps.{whole_at, ended}
use Rattle.sql_parse.specs.Limits.{passes, IsFirstPast}
use Rattle.sql_parse.specs.Parse.{IsSentence, IsShallow, Accepts, fault_or, Refuses}
use Rattle.sql_parse.specs.Clauses.{query}
use Rattle.sql_parse.specs.FactoredGrammar.{factor_by_operand}
use Rattle.sql_query.specs.Sentence.{Sentence, is_left_out_whole}
use Rattle.sql_parse.proofs.Told.{Told}
use Rattle.sql_parse.specs.Parse.{Answered, Parsed}
use Rattle.number_words.specs.LiteralWords.{worded_tokens_in as tokens_in}
use Rattle.sql_text.specs.Calls.{lexeme_of}
use Rattle.std.proofs.Common.{zero, suc, append_assoc}
use Rattle.std.proofs.lemmas.List.{take-take, take-append-drop, length-take-le}
use Rattle.sql_parse.specs.Tokens.{Mark, mark, mark_of, marks}
use Rattle.sql_parse.proofs.ClauseReading.{query_same}
use Rattle.sql_parse.proofs.Printed.{read_shallow, printed_shallow, read_sentence, printed_sentence}
use Rattle.sql_parse.proofs.Printed.{sentence_of_shallow}
use Rattle.sql_parse.proofs.Whole.{told}
use Rattle.sql_parse.proofs.OneAnswer.{part_passes}
use Rattle.sql_parse.proofs.Past.{marks_length}

-- ---- of the grammar that is read, and of the one that is printed

begins_by : (L M : Language Mark Sentence) → Within L M → (front : List Mark) → Begins L front → Begins M front
begins_by L M w front b = (b.0, b.1, w (front ++ b.0) b.1 b.2)

offends_by : (ts place : List Mark) → Offends (Spells (Nested factor_by_operand 64) query) (Spells (Any factor_by_operand) query) ts place →
    Offends IsShallow IsSentence ts place
offends_by ts [] o = record {
  front = o.front;
  splits = o.splits;
  begins =
      begins_by (Spells (Nested factor_by_operand 64) query) IsShallow printed_shallow o.front o.begins;
  ends =
      λ v s. o.ends v (read_sentence o.front v s);
}
offends_by ts (t ∷ place) o = record {
  front = o.front;
  splits = o.splits;
  begins =
      begins_by (Spells (Nested factor_by_operand 64) query) IsShallow printed_shallow o.front o.begins;
  ends =
      λ more v s. o.ends more v (read_sentence (o.front ++ t ∷ more) v s);
}

exceeds_by : (ts : List Mark) → Exceeds (Spells (Nested factor_by_operand 64) query) (Spells (Any factor_by_operand) query) ts →
    Exceeds IsShallow IsSentence ts
exceeds_by ts x = record {
  front = x.front;
  rest = x.rest;
  splits = x.splits;
  begins =
      begins_by (Spells (Any factor_by_operand) query) IsSentence printed_sentence x.front x.begins;
  passes =
      λ b. x.passes (begins_by IsShallow (Spells (Nested factor_by_operand 64) query) read_shallow x.front b);
}

at_end : (ts : List Mark) (o : Outcome Mark Sentence) →
    Tells (Spells (Nested factor_by_operand 64) query) (Spells (Any factor_by_operand) query) ts (wholly o) →
    Told (λ s. s) ts (ended (seen o))
unfolding seen
at_end ts (Read s []) t = (printed_shallow ts s t.0, λ other q. t.1 other (read_sentence ts other q))
at_end ts (Read s (u ∷ us)) t = (u ∷ us, refl, offends_by ts (u ∷ us) t)
at_end ts (Stuck us) t = (us, refl, offends_by ts us t)
at_end ts Over t = exceeds_by ts t

pub whole_told : (ts : List Mark) → Told (λ s. s) ts (whole_at 64 ts)
unfolding whole_at
whole_told ts = subst (λ a. Told (λ s. s) ts (ended a)) (query_same 64 ts)
    (at_end ts (reads (Some (read factor_by_operand 64)) query ts) (told 64 ts))

pub told_by : {X : Type 0} (view : X → Sentence) (ts : List Mark) (r : Result X Refusal) →
    Gives view r (whole_at 64 ts) → Told view ts r
told_by view ts (Ok x) g = subst (Told (λ s. s) ts) g (whole_told ts)
told_by view ts (Err (refusal.Offends left)) g = let ne : refusal.Offends left ≢ refusal.OutOfMemory =
    λ e. cc in subst (Told (λ s. s) ts) (g ne) (whole_told ts)
told_by view ts (Err refusal.TooDeep) g = let ne : refusal.TooDeep ≢ refusal.OutOfMemory =
    λ e. cc in subst (Told (λ s. s) ts) (g ne) (whole_told ts)
told_by view ts (Err refusal.OutOfMemory) g = tt

-- ---- the answers

pub too_deep : (ts : List Mark) (end : ℕ) → Exceeds IsShallow IsSentence ts → Refuses ts end LimitReached
too_deep ts end x = inl (
  record {
    front = x.front;
    rest = x.rest;
    splits = x.splits;
    begins = x.begins;
    past =
        inl x.passes;
  },
  refl,
)

pub left_out : (ts : List Mark) (end : ℕ) (s : Sentence) → IsShallow ts s → passes ts ≡ false →
    is_left_out_whole s ≡ true → Refuses ts end NotInSubset
left_out ts end s q p w = inr (inr (
  record {
    sentence = s;
    shallow = q;
    within = p;
    whole = w;
  },
  refl,
))

pub accepted : (ts : List Mark) (s : Sentence) → IsShallow ts s ×
    ((other : Sentence) → IsSentence ts other → other ≡ s) → passes ts ≡ false → is_left_out_whole s ≡ false →
    Accepts ts s
accepted ts s q p w = record {
  shallow = q.0;
  only = q.1;
  within = p;
  whole = w;
}

-- the tokens before the place, and those from there on
cut : (xs : List Token) (a b : List Mark) → marks xs ≡ a ++ b → (marks (take (length a) xs) ≡ a) ×
    (marks (drop (length a) xs) ≡ b) × (length xs ≡ length a + length b)
cut xs [] b e = (refl, e, lengths xs b e)
  where
    lengths : (ys : List Token) (c : List Mark) → marks ys ≡ c → length ys ≡ 0 + length c
    lengths [] [] f = refl
    lengths [] (x ∷ c) f = cc
    lengths (y ∷ ys) [] f = cc
    lengths (y ∷ ys) (x ∷ c) f = let g : marks ys ≡ c = cc in let h = lengths ys c g in omega (arith, h)
cut [] (x ∷ a) b e = cc
cut (t ∷ xs) (x ∷ a) b e =
    let first : mark t ≡ x = cc in
    let rest : marks xs ≡ a ++ b = cc in
    let ih = cut xs a b rest in
    (rw (first, ih.0) refl, ih.1, omega (arith, ih.2))

pub cut_at : (xs : List Token) (left : ℕ) →
    ((place : List Mark) × (length place ≡ left) × Offends IsShallow IsSentence (marks xs) place) →
    (place : List Mark) × (o : Offends IsShallow IsSentence (marks xs) place) × (left ≤ length xs) ×
    (marks (take (length xs - left) xs) ≡ o.front) × (marks (drop (length xs - left) xs) ≡ place)
cut_at xs left w =
    let c = cut xs w.2.front w.0 w.2.splits in
    let le : left ≤ length xs = omega (arith, c.2, w.1) in
    let at : length xs - left ≡ length w.2.front = omega (arith, c.2, w.1) in
    (w.0, w.2, le, rw at c.0, rw at c.1)

-- ---- tokens that pass no limit

pub offends_within : (xs : List Token) (left end : ℕ) (fault : Fault) → passes (marks xs) ≡ false →
    ((place : List Mark) × (length place ≡ left) × Offends IsShallow IsSentence (marks xs) place) →
    fault ≡ fault_or (BadSql end) (marks (drop (length xs - left) xs)) → Refuses (marks xs) end fault
offends_within xs left end fault none w f =
    let c = cut_at xs left w in
    inr (inl (
      c.0,
      record {
        offends = c.1;
        counts =
            part_passes c.1.front c.0 (subst (λ (z : List Mark). passes z ≡ false) c.1.splits none);
      },
      f
          ∙ ap (fault_or (BadSql end)) c.4,
    ))

-- ---- tokens of which the one at `at` is the first that passes a limit

abbrev front_of : ℕ → List Token → List Mark
front_of at xs = marks (take (at + 1) xs)

abbrev behind : ℕ → List Token → List Mark
behind at xs = marks (drop (at + 1) xs)

splits_at : (n : ℕ) (xs : List Token) → marks xs ≡ marks (take n xs) ++ marks (drop n xs)
splits_at zero xs = refl
splits_at (suc n) [] = refl
splits_at (suc n) (x ∷ xs) = ap (λ (z : List Mark). mark x ∷ z) (splits_at n xs)

marks_take : (n : ℕ) (xs : List Token) → take n (marks xs) ≡ marks (take n xs)
marks_take zero xs = refl
marks_take (suc n) [] = refl
marks_take (suc n) (x ∷ xs) = ap (λ (z : List Mark). mark x ∷ z) (marks_take n xs)

-- no token of a shorter front passes a limit
shorter_front : (n at : ℕ) (ts : List Mark) → n ≤ at → passes (take at ts) ≡ false → passes (take n ts) ≡ false
shorter_front n at ts le none = subst (λ (z : List Mark). passes z ≡ false) (take-take n at ts le)
    (part_passes (take n (take at ts)) (drop n (take at ts))
    (subst (λ (z : List Mark). passes z ≡ false) (sym (take-append-drop n (take at ts))) none))

limit_past : (xs : List Token) (at end : ℕ) → IsFirstPast (Some at) (marks xs) → Begins IsSentence (front_of at xs) →
    Refuses (marks xs) end LimitReached
limit_past xs at end past b = inl (
  record {
    front = front_of at xs;
    rest = behind at xs;
    splits = splits_at (at + 1) xs;
    begins = b;
    past =
        inr (subst (λ (z : List Mark). passes z ≡ true) (marks_take (at + 1) xs) past.2);
  },
  refl,
)

pub read_past : (xs : List Token) (at end : ℕ) (s : Sentence) → IsFirstPast (Some at) (marks xs) →
    IsShallow (front_of at xs) s → Refuses (marks xs) end LimitReached
read_past xs at end s past q = limit_past xs at end past (
  [],
  s,
  subst (λ (z : List Mark). IsSentence z s) (sym (append-nil (front_of at xs)))
      (sentence_of_shallow (front_of at xs) s q),
)

pub deep_past : (xs : List Token) (at end : ℕ) → Exceeds IsShallow IsSentence (front_of at xs) →
    Refuses (marks xs) end LimitReached
deep_past xs at end x = too_deep (marks xs) end (record {
  front = x.front;
  rest = x.rest ++ behind at xs;
  splits =
      splits_at (at + 1) xs
      ∙ (ap (λ (z : List Mark). z ++ behind at xs) x.splits ∙ append_assoc x.front x.rest (behind at xs));
  begins = x.begins;
  passes = x.passes;
})

offended : (xs : List Token) (at end : ℕ) (fault : Fault) → IsFirstPast (Some at) (marks xs) → (place : List Mark) →
    Offends IsShallow IsSentence (front_of at xs) place → fault ≡ fault_or LimitReached place →
    Refuses (marks xs) end fault
offended xs at end fault past [] o f = subst (Refuses (marks xs) end) (sym f) (limit_past xs at end past
    (begins_by IsShallow IsSentence sentence_of_shallow (front_of at xs)
    (subst (Begins IsShallow) (sym (o.splits ∙ append-nil o.front)) o.begins)))
offended xs at end fault past (t ∷ place) o f =
    let whole : marks xs ≡ o.front ++ t ∷ (place ++ behind at xs) =
    splits_at (at + 1) xs
    ∙ (ap (λ (z : List Mark). z ++ behind at xs) o.splits ∙ append_assoc o.front (t ∷ place) (behind at xs)) in
    let c = cut xs o.front (t ∷ (place ++ behind at xs)) whole in
    let parts = (cut (take (at + 1) xs) o.front (t ∷ place) o.splits).2 in
    let size = marks_length xs in
    let inside = past.0 in
    let room : at + 1 ≤ length xs = omega (arith, size, inside) in
    let taken = length-take-le (at + 1) xs room in
    let few : length o.front ≤ at = omega (arith, parts, taken) in
    inr (inl (
      t ∷ (place ++ behind at xs),
      record {
        offends = record { front = o.front; splits = whole; begins = o.begins; ends = o.ends };
        counts =
            subst (λ (z : List Mark). passes z ≡ false) (marks_take (length o.front) xs ∙ c.0)
            (shorter_front (length o.front) at (marks xs) few past.1);
      },
      f,
    ))

pub offends_past : (xs : List Token) (at left end : ℕ) (fault : Fault) → IsFirstPast (Some at) (marks xs) →
    ((place : List Mark) × (length place ≡ left) × Offends IsShallow IsSentence (front_of at xs) place) →
    fault ≡ fault_or LimitReached (marks (drop (length (take (at + 1) xs) - left) (take (at + 1) xs))) →
    Refuses (marks xs) end fault
offends_past xs at left end fault past w f =
    let c = cut_at (take (at + 1) xs) left w in
    offended xs at end fault past c.0 c.1 (f ∙ ap (fault_or LimitReached) c.4)

-- ---- of a text

marks_same : (xs : List Token) → map mark_of (map lexeme_of xs) ≡ marks xs
marks_same [] = refl
marks_same (x ∷ xs) = ap (λ (z : List Mark). mark x ∷ z) (marks_same xs)

pub parsed_by : {X : Type 0} (view : X → Sentence) (text : List ℕ) (xs : List Token) (r : Result X Fault) →
    tokens_in text ≡ Ok (map lexeme_of xs) → Answered view (marks xs) (length text) r → Parsed view text r
parsed_by view text xs (Ok x) e a =
    (map lexeme_of xs, e, subst (λ (z : List Mark). Accepts z (view x)) (sym (marks_same xs)) a)
parsed_by view text xs (Err fault) e a =
    λ ne. inr (
      map lexeme_of xs,
      e,
      subst (λ (z : List Mark). Refuses z (length text) fault) (sym (marks_same xs)) (a ne),
    )

pub fits : (n : ℕ) → n ≤ 16384 → Fits w32 n
fits n le = search (arith, le)
