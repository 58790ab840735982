use Rattle.std.proofs.Common.{◌≡◌, ◌∙◌, ap, refl, [], ◌∷◌, ◌++◌, arith, rules}
use Rattle.std.specs.List.{flat_map}
use Rattle.std.proofs.lemmas.Str.Pattern.{split_parts}
use Rattle.sql_text.specs.Values.{doubled}
use Rattle.client_commands.proofs.Quoting.{end_written, first_doubled, none_doubled, pair_written}
use Rattle.client_commands.proofs.quoted_name.quoted_name.Goals as goal

pub loop-front-init : goal.loop-front-init
unfolding lib.Utf8.encode
loop-front-init c = record {
  utf8 = search rules;
  all = rw (c.in_ok-push.ensures.bytes, c.new-text.ensures.bytes) refl;
}

pub loop-front-preserved : goal.loop-front-preserved
loop-front-preserved c =
    let l = c.loop-front in
    let cut = rw c.in-Some.is at (split_parts 34 l.rest.now c.split_once.result c.split_once.ensures.cases (omega arith)) in
    let turned : flat_map (doubled 34) l.rest.now ≡ c.in-Some.front.now ++ 34 ∷ 34 ∷ flat_map (doubled 34) c.in-Some.after.now =
    ap (flat_map (doubled 34)) cut.0 ∙ first_doubled 34 c.in-Some.front.now c.in-Some.after.now cut.1 in
    record {
      utf8 = search rules;
      all = pair_written 34 _ _ _ c.in-Some.front.now _ (34 ∷ []) _ c.in_ok-push_str.ensures.bytes c.in_ok-push_str-2.ensures.bytes (rw turned at l.invariant.all);
    }

pub returns : goal.returns
unfolding lib.Utf8.encode
returns c =
    let l = c.loop-front in
    let none = rw c.in_default.is at (split_parts 34 l.rest.now c.split_once.result c.split_once.ensures.cases (omega arith)) in
    end_written _ _ _ l.rest.now (34 ∷ []) _ c.in_ok-push_str-3.ensures.bytes c.in_ok-push-2.ensures.bytes (rw (none_doubled 34 l.rest.now none) at l.invariant.all)
