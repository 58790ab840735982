use Rattle.std.proofs.Common.{◌∷◌, [], ℕ, length, slice_index_or, refl, sym, ap, ◌∙◌, arith}
use Rattle.std.proofs.lemmas.List.{length-append}
use Rattle.grouping.proofs.Finding.{step_more}
use Rattle.grouping.proofs.known_keys.push_known.Goals as goal

pub loop-k-preserved : goal.loop-k-preserved
loop-k-preserved g c =
    let grown = c.in_ok-push-in-Some.ensures.items in
    let long = ap length grown ∙ length-append c.loop-k.groups.items (c.in-Some.group ∷ []) in
    record {
      at = omega (arith, long, c.loop-k.invariant.at);
      more = omega (arith, long, c.loop-k.invariant.more);
      found = λ before firsts known so.
          let told = c.in-Some.ensures firsts known in
          step_more c.args.chosen.now before firsts firsts c.loop-k.groups.items c.push.new.self.items c.in-Some.group _
          (c.loop-k.invariant.found before firsts known so) (omega (arith, c.loop-k.invariant.at, c.loop-k-test.true, c.len-k.ensures)) refl refl refl
          (ap (λ (k : ℕ). slice_index_or c.args.chosen.now.rows.now k 0) (sym c.loop-k.invariant.at)) told.0 told.1 grown;
    }
