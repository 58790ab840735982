-- A fault that is said in a line.
use Rattle.std.proofs.Common.{ℕ, List, [], ◌∷◌, ◌++◌, Option, Result, Ok, Err, inl, inr, codes}
use Rattle.std.specs.Io.KnownBytes.{Appends}
use Rattle.grpc_frame.specs.Ends.{AppendsBeginning, CountsFailure, Writes}
use Rattle.grpc_frame.proofs.Growing.{beginning_of_head, beginning_of_content, content_behind}
use Rattle.command_ends.specs.Printing.{Said, Prints}

-- the line's head, its text and its end

pub head_begun : (a b : Option (List ℕ)) (text : List ℕ) → AppendsBeginning a b (codes "fault: ") → AppendsBeginning a b (codes "fault: " ++ text ++ 10 ∷ [])
head_begun a b text p = beginning_of_head a b (codes "fault: ") (text ++ 10 ∷ []) p

pub text_begun : (a b c : Option (List ℕ)) (text : List ℕ) → Appends a b (codes "fault: ") → AppendsBeginning b c text → AppendsBeginning a c (codes "fault: " ++ text ++ 10 ∷ [])
text_begun a b c text p q = beginning_of_content a b c (codes "fault: ") (text ++ 10 ∷ []) p (beginning_of_head b c text (10 ∷ []) q)

pub line_said : {A E : Type 0} (r : Result A E) (a b c d : Option (List ℕ)) (text : List ℕ) → Appends a b (codes "fault: ") → Appends b c text → Writes r c d (10 ∷ []) → Writes r a d (codes "fault: " ++ text ++ 10 ∷ [])
line_said r a b c d text p q w = content_behind r a b d (codes "fault: ") (text ++ 10 ∷ []) p (content_behind r b c d text (10 ∷ []) q w)

-- the whole text, or a beginning of it and a failure
pub printed : {A E : Type 0} (r : Result A E) (old new : Said) (text : List ℕ) → Writes r old.bytes new.bytes text → CountsFailure r old.failures new.failures → Prints text old new
printed (Ok x) old new text w n = inl (w, n)
printed (Err e) old new text w n = inr (w, n)
