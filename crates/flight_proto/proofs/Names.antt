-- The name of a message's type is the last part of its URL.
use Rattle.std.proofs.Common.{◌≡◌, ℕ, zero, suc, ◌+◌, ◌≤◌, List, [], ◌∷◌, ◌++◌, length, take, drop, Option, Some, None, MatchOption, Bool, true, false, cond, ◌⊎◌, inl, inr, ◌↔◌, Bor, option_map, refl, sym, ap, ◌∙◌, arith, ne_eqb, take-append-drop}
use Rattle.std.specs.Prelude.{◌==◌}
use Rattle.std.specs.Option.{option_or}
use Rattle.std.specs.Str.Pattern.{RFindsChar}
use Rattle.std.proofs.lemmas.Bool.{eqb-true, eqb-false}
use Rattle.std.proofs.lemmas.Str.{encode_ascii}
use Rattle.std.proofs.lemmas.Str.Pattern.{NoCharPasses-char}
use Rattle.flight_proto.specs.Any.{message_name}
use Rattle.flight_proto.specs.Laws.{slash, LacksSlash}

no_name : (url : List ℕ) → LacksSlash url → message_name url ≡ None
no_name [] lacks = refl
no_name (b ∷ rest) lacks =
    rw (no_name rest (λ i lt. lacks (suc i) (omega arith)), ne_eqb b slash (lacks 0 (omega arith))) refl

pub name_behind : (front name : List ℕ) → LacksSlash name → message_name (front ++ slash ∷ name) ≡ Some name
name_behind [] name lacks = rw (no_name name lacks) refl
name_behind (b ∷ front) name lacks = rw (name_behind front name lacks) refl

-- what `rsplit_once` gives at a slash
pub name_by_split : (url : List ℕ) (r : Option (Bor (List ℕ) × Bor (List ℕ)))
    → MatchOption r (RFindsChar slash url None) (λ x. (i : ℕ) × (j : ℕ) × RFindsChar slash url (Some (i, j)) × (x.0.now ≡ take i url) × (x.1.now ≡ drop j url) × (i ≤ j) × (length x.0.now ≡ i) × (length x.1.now + j ≡ length url))
    → message_name url ≡ option_map (λ x. x.1.now) r
name_by_split url None h = no_name url (λ i lt. NoCharPasses-char slash url i h (omega arith) lt)
name_by_split url (Some x) h =
    let lacks : LacksSlash (drop h.1 url) = λ i lt. NoCharPasses-char slash (drop h.1 url) i h.2.0 (omega arith) lt in
    let whole : url ≡ take h.0 url ++ slash ∷ drop h.1 url =
    sym (take-append-drop h.0 url) ∙ ap (λ (t : List ℕ). take h.0 url ++ t) (h.2.1.split ∙ ap (λ (t : List ℕ). t ++ drop h.1 url) (encode_ascii slash (omega arith))) in
    ap message_name whole ∙ name_behind (take h.0 url) (drop h.1 url) lacks ∙ ap Some (sym h.4)

-- where there is no name there is no slash
found_none : (found : Option (List ℕ)) (here : Bool) (rest : List ℕ) → option_or found (cond here (Some rest) None) ≡ None → (found ≡ None) × (here ≡ false)
found_none None false rest e = (refl, refl)
found_none None true rest e = absurd cc
found_none (Some name) here rest e = absurd cc

pub lacks_more : (b : ℕ) (rest : List ℕ) → (b == slash) ≡ false → LacksSlash rest → LacksSlash (b ∷ rest)
lacks_more b rest e lacks zero lt = eqb-false b slash e
lacks_more b rest e lacks (suc i) lt = lacks i (omega arith)

no_slash : (url : List ℕ) → message_name url ≡ None → LacksSlash url
no_slash [] e = λ i lt. absurd (omega arith)
no_slash (b ∷ rest) e =
    let h = found_none (message_name rest) (b == slash) rest e in
    lacks_more b rest h.1 (no_slash rest h.0)

found_some : (found : Option (List ℕ)) (here : Bool) (rest name : List ℕ) → option_or found (cond here (Some rest) None) ≡ Some name → (found ≡ Some name) ⊎ ((found ≡ None) × (here ≡ true) × (rest ≡ name))
found_some (Some found) here rest name e = inl e
found_some None true rest name e = inr (refl, refl, cc)
found_some None false rest name e = absurd cc

pub name_stands : (url name : List ℕ) → message_name url ≡ Some name → (front : List ℕ) × (url ≡ front ++ slash ∷ name) × LacksSlash name
name_stands [] name e = absurd cc
name_stands (b ∷ rest) name e =
    elim (found_some (message_name rest) (b == slash) rest name e) [
      | inl later ↦ let h = name_stands rest name later in (b ∷ h.0, ap (λ (t : List ℕ). b ∷ t) h.1, h.2)
      | inr here ↦
          let at = eqb-true b slash here.1 in
          ([], rw (at, here.2) refl, rw (← here.2) (no_slash rest here.0))
    ]

pub name_law : (url name : List ℕ) → (message_name url ≡ Some name) ↔ ((front : List ℕ) × (url ≡ front ++ slash ∷ name) × LacksSlash name)
name_law url name = (name_stands url name, λ h. ap message_name h.1 ∙ name_behind h.0 name h.2)
