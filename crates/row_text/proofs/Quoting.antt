-- Texts in quotes.
use Rattle.std.proofs.Common.{◌≡◌, ◌==◌, ◌∷◌, ◌++◌, [], ℕ, List, Bool, true, false, cond, refl, ap, ap₂}
use Rattle.std.proofs.lemmas.Bool.Decides.{Decides-eqb}
use Rattle.std.specs.List.{flat_map}
use Rattle.csv.specs.Writing.{escaped, quoted}
use Rattle.row_text.specs.Records.{comma_writer}
use Rattle.row_text.specs.inside.Quotes.{doubled_byte}

-- what stands between the quotes
pub escaped_is : (text : List ℕ) → escaped comma_writer text ≡ flat_map doubled_byte text
unfolding escaped
escaped_is [] = refl
escaped_is (byte ∷ text) = by (byte == 34) refl (escaped_is text)
  where
    by : (quote : Bool) → (byte == 34) ≡ quote → escaped comma_writer text ≡ flat_map doubled_byte text → cond quote (34 ∷ byte ∷ escaped comma_writer text) (byte ∷ escaped comma_writer text) ≡ cond quote (34 ∷ 34 ∷ []) (byte ∷ []) ++ flat_map doubled_byte text
    by true e rest = ap₂ (λ (b : ℕ) (l : List ℕ). 34 ∷ b ∷ l) ((Decides-eqb byte 34).0 e) rest
    by false e rest = ap (λ (l : List ℕ). byte ∷ l) rest

pub quoted_is : (text : List ℕ) → quoted comma_writer text ≡ (34 ∷ []) ++ (flat_map doubled_byte text ++ (34 ∷ []))
quoted_is text = ap (λ (l : List ℕ). 34 ∷ (l ++ (34 ∷ []))) (escaped_is text)
