use Rattle.std.proofs.Common.{◌≡◌, ◌++◌, Some, None, sym, ap, ◌∙◌, refl, append_assoc}
use Rattle.std.specs.Prelude.{string_bytes}
use Rattle.sql_text.specs.Values.{unquoted, pair_at}
use Rattle.sql_text.proofs.Pairs.{pair_front, undoubled_none}
use Rattle.sql_text.proofs.value.unquoted.Goals as goal

pub loop-at-init : goal.loop-at-init
unfolding unquoted
loop-at-init c = record {
  utf8 = c.inside-rest.utf8;
  left = rw (c.new-value.ensures.bytes, c.inside-rest.ensures) refl;
}

pub split_at-requires : goal.split_at-requires
split_at-requires c =
    let e : pair_at c.args.quote 0 c.loop-at.rest.now ≡ Some c.in-Some.at = cc in
    (pair_front c.args.quote c.in-Some.at c.loop-at.rest.now c.requires c.loop-at.invariant.utf8 e).cut

pub split_at-requires-in-Some : goal.split_at-requires-in-Some
split_at-requires-in-Some c =
    let e : pair_at c.args.quote 0 c.loop-at.rest.now ≡ Some c.in-Some.at = cc in
    rw c.split_at.ensures.back (pair_front c.args.quote c.in-Some.at c.loop-at.rest.now c.requires c.loop-at.invariant.utf8 e).cut_one

pub loop-at-preserved : goal.loop-at-preserved
loop-at-preserved c =
    let e : pair_at c.args.quote 0 c.loop-at.rest.now ≡ Some c.in-Some.at = cc in
    let h = pair_front c.args.quote c.in-Some.at c.loop-at.rest.now c.requires c.loop-at.invariant.utf8 e in
    let pushed = c.in_ok-push_str.ensures.bytes in
    let front = c.split_at.ensures.front in
    record {
      utf8 = rw (c.split_at-in-Some.ensures.back, c.split_at.ensures.back) h.utf8;
      left =
          rw (pushed, front, c.split_at-in-Some.ensures.back, c.split_at.ensures.back)
          (append_assoc (string_bytes c.loop-at.value) _ _ ∙ ap (λ x. string_bytes c.loop-at.value ++ x) (sym h.undone) ∙ c.loop-at.invariant.left);
    }

pub returns : goal.returns
returns c =
    let e : pair_at c.args.quote 0 c.loop-at.rest.now ≡ None = cc in
    let pushed = c.in_ok-push_str-2.ensures.bytes in
    rw pushed (ap (λ x. string_bytes c.loop-at.value ++ x) (sym (undoubled_none c.args.quote 0 c.loop-at.rest.now e)) ∙ c.loop-at.invariant.left)
