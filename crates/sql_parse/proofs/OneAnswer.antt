-- Tokens have at most one answer.
use Rattle.std.proofs.Common.{◌≡◌, ℕ, true, false, ◌||◌, ◌⊎◌, inl, inr, List, [], ◌∷◌, ◌++◌, refl, sym, ◌∙◌, ap}
use Rattle.std.proofs.Common.{subst, append_assoc, append-nil}
use Rattle.std.proofs.lemmas.Bool.{or_from}
use Rattle.scan_base.specs.declared.fault.Fault.{Fault}
use Rattle.scan_base.specs.declared.fault.Fault.TheVariants.{BadSql}
use Rattle.grammar.specs.Rule.{Language}
use Rattle.grammar.specs.Sentence.{Begins, NoneGoesOn}
use Rattle.grammar.proofs.Exact.{one_value}
use Rattle.grammar.proofs.Flags.{or-left, or-right}
use Rattle.sql_parse.specs.FactoredGrammar.{factor_by_operand}
use Rattle.sql_parse.specs.Limits.{TallyAt, counted, is_past, is_long_name, passes_from, passes}
use Rattle.sql_parse.specs.Parse.{IsSentence, IsShallow, Accepts, PassesLimit, HasOffender}
use Rattle.sql_parse.specs.Parse.{fault_or, Refuses}
use Rattle.sql_parse.specs.PredicateProductions.{begins_factor}
use Rattle.sql_parse.specs.Clauses.{query}
use Rattle.sql_parse.proofs.EveryKind.{follows_factor}
use Rattle.sql_query.specs.Sentence.{Sentence, is_left_out_whole}
use Rattle.sql_parse.specs.Tokens.{Mark}
use Rattle.sql_parse.proofs.EveryKind.{kinds}
use Rattle.sql_parse.proofs.Conditions.{one_way, made_well, guarded, filled, begins_so, query_made_well, query_one_way}
use Rattle.sql_parse.proofs.Everywhere.{covered, apart}
use Rattle.sql_parse.proofs.Printed.{read_sentence, sentence_of_shallow}
use Rattle.sql_parse.proofs.Limited.{limited}
use Rattle.sql_parse.specs.SentenceLimits.{IsWithinLimits}

-- a list of tokens says at most one sentence
pub one_sentence : (ts : List Mark) (s other : Sentence) → IsSentence ts s → IsSentence ts other → s ≡ other
one_sentence ts s other q r = one_value kinds factor_by_operand begins_factor follows_factor covered apart made_well guarded
    filled begins_so one_way query query_made_well query_one_way ts s other (read_sentence ts s q)
    (read_sentence ts other r)

-- ---- lists

-- of two ways to cut a list, one cuts no later than the other
cut_either : {T : Type 0} (a x b y : List T) → a ++ x ≡ b ++ y → ((c : List T) × (b ≡ a ++ c) × (x ≡ c ++ y)) ⊎
    ((c : List T) × (a ≡ b ++ c) × (y ≡ c ++ x))
cut_either [] x b y e = inl (b, refl, e)
cut_either (t ∷ a) x [] y e = inr (t ∷ a, refl, sym e)
cut_either {T} (t ∷ a) x (u ∷ b) y e = let same_first : t ≡ u = cc in let rest : a ++ x ≡ b ++ y =
    cc in go same_first (cut_either a x b y rest)
  where
    go : t ≡ u → ((c : List T) × (b ≡ a ++ c) × (x ≡ c ++ y)) ⊎ ((c : List T) × (a ≡ b ++ c) × (y ≡ c ++ x)) →
        ((c : List T) × ((u ∷ b) ≡ (t ∷ a) ++ c) × (x ≡ c ++ y)) ⊎
        ((c : List T) × ((t ∷ a) ≡ (u ∷ b) ++ c) × (y ≡ c ++ x))
    go h (inl q) = inl (q.0, rw (h, q.1) refl, q.2)
    go h (inr q) = inr (q.0, rw (h, q.1) refl, q.2)

-- ---- beginnings

part_begins : (L : Language Mark Sentence) (a b : List Mark) → Begins L (a ++ b) → Begins L a
part_begins L a b q = (b ++ q.0, q.1, subst (λ (z : List Mark). L z q.1) (append_assoc a b q.0) q.2)

whole_begins : (L : Language Mark Sentence) (a b : List Mark) (s : Sentence) → L (a ++ b) s → Begins L a
whole_begins L a b s q = (b, s, q)

part_passes_from : (tally : TallyAt) (a b : List Mark) → passes_from tally (a ++ b) ≡ false → passes_from tally a ≡ false
part_passes_from tally [] b e = refl
part_passes_from tally (t ∷ a) b e =
    let here : (is_long_name t.0 t.1.1 || is_past tally) ≡ false =
    or-left (is_long_name t.0 t.1.1 || is_past tally) (passes_from (counted tally t.0) (a ++ b)) e in
    let there = or-right (is_long_name t.0 t.1.1 || is_past tally) (passes_from (counted tally t.0) (a ++ b)) e in
    or_from (is_long_name t.0 t.1.1 || is_past tally) (passes_from (counted tally t.0) a) here
    (part_passes_from (counted tally t.0) a b there)

pub part_passes : (a b : List Mark) → passes (a ++ b) ≡ false → passes a ≡ false
unfolding passes
part_passes a b e = part_passes_from (record { places = 0; items = 0; most = 64 }) a b e

-- nothing begins with more than what stands before an offending token
beyond : (front place : List Mark) → NoneGoesOn IsSentence front place → (t : Mark) (c y : List Mark) → place ≡ t ∷
    (c ++ y) → Begins IsSentence (front ++ t ∷ c) → ⊥
beyond front [] none t c y e b = cc
beyond front (u ∷ place) none t c y e b = let h : u ≡ t =
    cc in none (c ++ b.0) b.1 (subst (λ (x : Mark). IsSentence (front ++ x ∷ (c ++ b.0)) b.1) (sym h)
    (subst (λ (z : List Mark). IsSentence z b.1) (append_assoc front (t ∷ c) b.0) b.2))

-- a whole sentence has no offending token
whole_none : (front place : List Mark) → NoneGoesOn IsSentence front place → (s : Sentence) →
    IsSentence (front ++ place) s → ⊥
whole_none front [] none s q = none s (subst (λ (z : List Mark). IsSentence z s) (append-nil front) q)
whole_none front (t ∷ place) none s q = none place s q

-- tokens that pass a limit begin no sentence within the limits
pub past_stays : (front more : List Mark) (s : Sentence) → passes front ≡ true → IsSentence (front ++ more) s →
    IsWithinLimits s → ⊥
past_stays front more s past q w =
    let none = part_passes front more ((limited (front ++ more) s q).1 w) in cc

-- ---- of the answers no two hold

-- a front within the limits passes none
no_limit : (front : List Mark) → Begins IsShallow front → passes front ≡ false → (Begins IsShallow front → ⊥) ⊎
    (passes front ≡ true) → ⊥
no_limit front b p (inl n) = n b
no_limit front b p (inr q) = cc

limit_or_whole : (ts : List Mark) (s : Sentence) → PassesLimit ts → IsShallow ts s → passes ts ≡ false → ⊥
limit_or_whole ts s l q p =
    no_limit l.front (whole_begins IsShallow l.front l.rest s (subst (λ (z : List Mark). IsShallow z s) l.splits q))
    (part_passes l.front l.rest (subst (λ (z : List Mark). passes z ≡ false) l.splits p)) l.past

offender_or_whole : (ts place : List Mark) (s : Sentence) → HasOffender ts place → IsShallow ts s → ⊥
offender_or_whole ts place s o q = whole_none o.offends.front place o.offends.ends s
    (subst (λ (z : List Mark). IsSentence z s) o.offends.splits (sentence_of_shallow ts s q))

limit_or_offender : (ts place : List Mark) → PassesLimit ts → HasOffender ts place → ⊥
limit_or_offender ts place l o = go (cut_either l.front l.rest o.offends.front place (sym l.splits ∙ o.offends.splits))
  where
    further : (c : List Mark) → l.front ≡ o.offends.front ++ c → place ≡ c ++ l.rest → ⊥
    further [] e f = let same_front : l.front ≡ o.offends.front = e ∙ append-nil o.offends.front in
        no_limit l.front (subst (Begins IsShallow) (sym same_front) o.offends.begins)
        (subst (λ (z : List Mark). passes z ≡ false) (sym same_front) o.counts) l.past
    further (t ∷ c) e f = beyond o.offends.front place o.offends.ends t c l.rest f
        (subst (Begins IsSentence) e l.begins)

    go : ((c : List Mark) × (o.offends.front ≡ l.front ++ c) × (l.rest ≡ c ++ place)) ⊎
        ((c : List Mark) × (l.front ≡ o.offends.front ++ c) × (place ≡ c ++ l.rest)) → ⊥
    go (inl q) = no_limit l.front (part_begins IsShallow l.front q.0 (subst (Begins IsShallow) q.1 o.offends.begins))
        (part_passes l.front q.0 (subst (λ (z : List Mark). passes z ≡ false) q.1 o.counts)) l.past
    go (inr q) = further q.0 q.1 q.2

shallow_begins : (front : List Mark) → Begins IsShallow front → Begins IsSentence front
shallow_begins front b = (b.0, b.1, sentence_of_shallow (front ++ b.0) b.1 b.2)

-- the offending token is one
one_offender : (ts first second : List Mark) → HasOffender ts first → HasOffender ts second → first ≡ second
one_offender ts first second o p = go
    (cut_either o.offends.front first p.offends.front second (sym o.offends.splits ∙ p.offends.splits))
  where
    later : (c : List Mark) → p.offends.front ≡ o.offends.front ++ c → first ≡ c ++ second → first ≡ second
    later [] e f = f
    later (t ∷ c) e f = absurd (beyond o.offends.front first o.offends.ends t c second f
        (subst (Begins IsSentence) e (shallow_begins p.offends.front p.offends.begins)))

    sooner : (c : List Mark) → o.offends.front ≡ p.offends.front ++ c → second ≡ c ++ first → first ≡ second
    sooner [] e f = sym f
    sooner (t ∷ c) e f = absurd (beyond p.offends.front second p.offends.ends t c first f
        (subst (Begins IsSentence) e (shallow_begins o.offends.front o.offends.begins)))

    go : ((c : List Mark) × (p.offends.front ≡ o.offends.front ++ c) × (first ≡ c ++ second)) ⊎
        ((c : List Mark) × (o.offends.front ≡ p.offends.front ++ c) × (second ≡ c ++ first)) → first ≡ second
    go (inl q) = later q.0 q.1 q.2
    go (inr q) = sooner q.0 q.1 q.2

-- tokens that are accepted are not refused
pub not_both : (ts : List Mark) (end : ℕ) (s : Sentence) (fault : Fault) → Accepts ts s → Refuses ts end fault → ⊥
not_both ts end s fault a (inl q) = limit_or_whole ts s q.0 a.shallow a.within
not_both ts end s fault a (inr (inl q)) = offender_or_whole ts q.0 s q.1 a.shallow
not_both ts end s fault a (inr (inr q)) =
    let same_sentence : q.0.sentence ≡ s = a.only q.0.sentence (sentence_of_shallow ts q.0.sentence q.0.shallow) in
    let left : is_left_out_whole s ≡ true =
    subst (λ (z : Sentence). is_left_out_whole z ≡ true) same_sentence q.0.whole in
    let kept = a.whole in cc

-- tokens are refused with at most one fault
pub one_fault : (ts : List Mark) (end : ℕ) (first second : Fault) → Refuses ts end first → Refuses ts end second →
    first ≡ second
one_fault ts end first second (inl p) (inl q) = p.1 ∙ sym q.1
one_fault ts end first second (inl p) (inr (inl q)) = absurd (limit_or_offender ts q.0 p.0 q.1)
one_fault ts end first second (inl p) (inr (inr q)) = absurd (limit_or_whole ts q.0.sentence p.0 q.0.shallow q.0.within)
one_fault ts end first second (inr (inl p)) (inl q) = absurd (limit_or_offender ts p.0 q.0 p.1)
one_fault ts end first second (inr (inl p)) (inr (inl q)) =
    p.2 ∙ (ap (fault_or (BadSql end)) (one_offender ts p.0 q.0 p.1 q.1) ∙ sym q.2)
one_fault ts end first second (inr (inl p)) (inr (inr q)) =
    absurd (offender_or_whole ts p.0 q.0.sentence p.1 q.0.shallow)
one_fault ts end first second (inr (inr p)) (inl q) = absurd (limit_or_whole ts p.0.sentence q.0 p.0.shallow p.0.within)
one_fault ts end first second (inr (inr p)) (inr (inl q)) =
    absurd (offender_or_whole ts q.0 p.0.sentence q.1 p.0.shallow)
one_fault ts end first second (inr (inr p)) (inr (inr q)) = p.1 ∙ sym q.1
