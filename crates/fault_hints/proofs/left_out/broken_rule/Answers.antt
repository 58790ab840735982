use Rattle.std.proofs.Common.{◌≡◌, ◌∙◌, ap₂, sym, refl, Bool, List, [], ◌∷◌, map}
use Rattle.std.specs.List.{list_any}
use Rattle.sql_text.specs.Calls.{lexeme_of}
use Rattle.sql_text.specs.Standard.{Lexeme}
use Rattle.fault_hints.specs.LeftOut.{broken_rule, joins, makes_groups}
use Rattle.fault_hints.proofs.left_out.broken_rule.Goals as goal

any_map : {A B : Type 0} (p : B → Bool) (f : A → B) (xs : List A) → list_any p (map f xs) ≡ list_any (λ x. p (f x)) xs
any_map p f [] = refl
any_map p f (x ∷ xs) = rw (any_map p f xs) refl

pub returns : goal.returns
returns c =
    c.rule.ensures
    ∙ ap₂ broken_rule
    (c.have_groups.ensures ∙ sym (any_map (λ (token : Lexeme). makes_groups token.kind) lexeme_of c.args.tokens.now))
    (c.have_joins.ensures ∙ sym (any_map (λ (token : Lexeme). joins token.kind) lexeme_of c.args.tokens.now))
