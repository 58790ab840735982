-- Tapes that advance.
use Rattle.std.proofs.Common.{ℕ, ◌+◌, List, [], ◌++◌, take, drop, Some, sym, ap, ◌∙◌, append_assoc, append-nil, take-add, take-append-drop}
use Rattle.std.proofs.lemmas.List.{drop-drop}
use Rattle.std.proofs.KnownBytes.{Consumes-nil, Consumes-trans}
use Rattle.grpc_frame.specs.Ends.{Tape, tape_of, Advances}

-- nothing was read
pub Advances-nil : (a : Tape) → Advances a a []
Advances-nil a = record { gave = sym (append-nil a.given); took = Consumes-nil a.left }

-- bytes were read, and then others
pub Advances-trans : (a b c : Tape) (bytes more : List ℕ) → Advances a b bytes → Advances b c more → Advances a c (bytes ++ more)
Advances-trans a b c bytes more p q = record {
  gave = q.gave ∙ ap (λ (l : List ℕ). l ++ more) p.gave ∙ append_assoc a.given bytes more;
  took = Consumes-trans a.left b.left c.left bytes more p.took q.took;
}

-- a read failed, or one gave these bytes, and just so they are noted

-- of bytes that are given in order, so many more were given
pub given_more : (place count : ℕ) (bytes : List ℕ) → Advances (tape_of (take place bytes) (Some (drop place bytes))) (tape_of (take (place + count) bytes) (Some (drop (place + count) bytes))) (take count (drop place bytes))
given_more place count bytes = record {
  gave = take-add place count bytes;
  took = sym (take-append-drop count (drop place bytes)) ∙ ap (λ (l : List ℕ). take count (drop place bytes) ++ l) (drop-drop count place bytes);
}
