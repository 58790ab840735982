use Rattle.std.proofs.Common.{◌≡◌, ℕ, Bool, true, false, List, [], ◌∷◌, ◌++◌, sym, ap, ◌∙◌}
use Rattle.std.specs.Prelude.{◌||◌}
use Rattle.std.specs.List.{list_any}
use Rattle.arrow_types.specs.declared.data_type.DataType.TheVariants.{Bool as Flag}
use Rattle.csv_columns.specs.FittingColumns.{is_empty}
use Rattle.csv_columns.proofs.Tried.{any_more, takes_more}
use Rattle.csv_columns.proofs.type_candidates.TypeCandidates.with.Goals as goal

empty_still : (fields : List (List ℕ)) (field : List ℕ) (before : Bool) → before ≡ true → before ≡ list_any is_empty fields → before ≡ list_any is_empty (fields ++ field ∷ [])
empty_still fields field before held was =
    held ∙ ap (λ (b : Bool). b || is_empty field) (sym held ∙ was) ∙ sym (any_more is_empty fields field)

empty_now : (fields : List (List ℕ)) (field : List ℕ) (before now : Bool) → before ≡ false → before ≡ list_any is_empty fields → now ≡ is_empty field
    → now ≡ list_any is_empty (fields ++ field ∷ [])
empty_now fields field before now failed was is =
    is ∙ ap (λ (b : Bool). b || is_empty field) (sym failed ∙ was) ∙ sym (any_more is_empty fields field)

pub returns-then-self : goal.returns-then-self
returns-then-self c fields seen =
    let field = c.args.field.now in
    record {
      flag = takes_more Flag fields field c.args.self.flag _ c.still_takes.ensures seen.flag;
      numbers = c.numbers_with.ensures fields seen.numbers;
      empty = empty_still fields field c.args.self.empty c.if-self.true seen.empty;
    }

pub returns-else-self : goal.returns-else-self
returns-else-self c fields seen =
    let field = c.args.field.now in
    let now : c.is_empty.result ≡ is_empty field = c.is_empty.ensures in
    record {
      flag = takes_more Flag fields field c.args.self.flag _ c.still_takes.ensures seen.flag;
      numbers = c.numbers_with.ensures fields seen.numbers;
      empty = empty_now fields field c.args.self.empty c.is_empty.result c.if-self.false seen.empty now;
    }
