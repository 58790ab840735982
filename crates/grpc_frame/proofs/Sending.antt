-- Bytes that are sent through an outbox.
use Rattle.std.proofs.Common.{◌≡◌, ℕ, List, [], ◌++◌, Option, refl, sym, ap, subst, ◌∙◌, append_assoc, append-nil}
use Rattle.std.specs.Prelude.{Result, Ok, Err}
use Rattle.std.specs.Io.KnownBytes.{Appends}
use Rattle.std.proofs.KnownBytes.{Appends-nil, Appends-trans}
use Rattle.grpc_frame.specs.Ends.{AppendsBeginning, Writes}
use Rattle.grpc_frame.specs.Sending.{Sent, NotSent, Sends}
use Rattle.grpc_frame.proofs.Growing.{beginning_of_head, beginning_of_content}

-- they were gathered
pub gathered : (a : Option (List ℕ)) (before after bytes : List ℕ) → after ≡ before ++ bytes → Sent a a before after bytes
gathered a before after bytes e = record { written = []; wrote = Appends-nil a; whole = e }

-- what was gathered was written, and then they were gathered
pub gathered_behind : (a b : Option (List ℕ)) (before after bytes : List ℕ) → Appends a b before → after ≡ bytes → Sent a b before after bytes
gathered_behind a b before after bytes wrote e = record { written = before; wrote = wrote; whole = ap (λ (l : List ℕ). before ++ l) e }

-- it was not
pub not_flushed : (a b : Option (List ℕ)) (before after bytes : List ℕ) → AppendsBeginning a b before → after ≡ []
    → NotSent a b before after bytes
not_flushed a b before after bytes begun none = record { begun = beginning_of_head a b before bytes begun; none = none }

-- it was, and then they were written, or a beginning of them
pub written_behind : {A E : Type 0} (r : Result A E) (a b c : Option (List ℕ)) (before after bytes : List ℕ) → Appends a b before → after ≡ [] → Writes r b c bytes
    → Sends r a c before after bytes
written_behind (Ok x) a b c before after bytes wrote none q = record {
  written = before ++ bytes;
  wrote = Appends-trans a b c before bytes wrote q;
  whole = ap (λ (l : List ℕ). (before ++ bytes) ++ l) none ∙ append-nil (before ++ bytes);
}
written_behind (Err e) a b c before after bytes wrote none q = record { begun = beginning_of_content a b c before bytes wrote q; none = none }

-- it was, and then the other end was looked at
pub looked : {A E : Type 0} (r : Result A E) (a b c : Option (List ℕ)) (before after : List ℕ) → Appends a b before → after ≡ [] → c ≡ b → Sends r a c before after []
looked (Ok x) a b c before after wrote none same = record {
  written = before;
  wrote = subst (λ (d : Option (List ℕ)). Appends a d before) (sym same) wrote;
  whole = ap (λ (l : List ℕ). before ++ l) none;
}
looked (Err e) a b c before after wrote none same = record {
  begun = record { front = before; rest = []; splits = refl; wrote = subst (λ (d : Option (List ℕ)). Appends a d before) (sym same) wrote };
  none = none;
}

-- ---- one after the other

-- the first of them was not sent
pub head_not_sent : (a b : Option (List ℕ)) (before after head content : List ℕ) → NotSent a b before after head → NotSent a b before after (head ++ content)
head_not_sent a b before after head content p = record {
  begun = subst (AppendsBeginning a b) (append_assoc before head content) (beginning_of_head a b (before ++ head) content p.begun);
  none = p.none;
}

-- it was, and so was the second
pub both_sent : (a b c : Option (List ℕ)) (before mid after head content : List ℕ) → Sent a b before mid head → Sent b c mid after content → Sent a c before after (head ++ content)
both_sent a b c before mid after head content p q = record {
  written = p.written ++ q.written;
  wrote = Appends-trans a b c p.written q.written p.wrote q.wrote;
  whole = append_assoc p.written q.written after ∙ ap (λ (l : List ℕ). p.written ++ l) q.whole
      ∙ sym (append_assoc p.written mid content) ∙ ap (λ (l : List ℕ). l ++ content) p.whole ∙ append_assoc before head content;
}

-- the second was not
pub second_not_sent : (a b c : Option (List ℕ)) (before mid after head content : List ℕ) → Sent a b before mid head → NotSent b c mid after content → NotSent a c before after (head ++ content)
second_not_sent a b c before mid after head content p q = record {
  begun = subst (AppendsBeginning a c) both (beginning_of_content a b c p.written (mid ++ content) p.wrote q.begun);
  none = q.none;
}
  where
    both : p.written ++ (mid ++ content) ≡ before ++ (head ++ content)
    both = sym (append_assoc p.written mid content) ∙ ap (λ (l : List ℕ). l ++ content) p.whole ∙ append_assoc before head content

pub sent_behind : {A E : Type 0} (r : Result A E) (a b c : Option (List ℕ)) (before mid after head content : List ℕ) → Sent a b before mid head → Sends r b c mid after content
    → Sends r a c before after (head ++ content)
sent_behind (Ok x) a b c before mid after head content p q = both_sent a b c before mid after head content p q
sent_behind (Err e) a b c before mid after head content p q = second_not_sent a b c before mid after head content p q

-- where nothing was gathered before, all that was sent is written, or a beginning of it

pub flushed : {A E : Type 0} (r : Result A E) (a b c : Option (List ℕ)) (before mid bytes : List ℕ) → before ≡ [] → Sent a b before mid bytes → Writes r b c mid → Writes r a c bytes
flushed (Ok x) a b c before mid bytes none p q =
    subst (Appends a c) (p.whole ∙ ap (λ (l : List ℕ). l ++ bytes) none) (Appends-trans a b c p.written mid p.wrote q)
flushed (Err e) a b c before mid bytes none p q =
    subst (AppendsBeginning a c) (p.whole ∙ ap (λ (l : List ℕ). l ++ bytes) none) (beginning_of_content a b c p.written mid p.wrote q)

pub begun_alone : (a b : Option (List ℕ)) (before after bytes : List ℕ) → before ≡ [] → NotSent a b before after bytes → AppendsBeginning a b bytes
begun_alone a b before after bytes none p = subst (AppendsBeginning a b) (ap (λ (l : List ℕ). l ++ bytes) none) p.begun

-- parts that are sent one after the other
pub ruleset sending = (written_behind, head_not_sent, sent_behind, looked)
