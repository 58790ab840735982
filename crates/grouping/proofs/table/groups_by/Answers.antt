use Rattle.std.proofs.Common.{◌≡◌, ℕ, length, slice_index_or, refl, ap, arith}
use Rattle.grouping.proofs.Finding.{step_more}
use Rattle.grouping.proofs.table.groups_by.Goals as goal

pub rows-preserved : goal.rows-preserved
rows-preserved g c =
    let done = c.in_ok-known_group.ensures in
    let known = c.in_ok-push_known.ensures in
    let at : c.len-in-rows.result ≡ length c.rows.groups.items = omega (arith, c.len-in-rows.ensures, c.rows.groups.ok) in
    record {
      finding = known.found c.args.firsts.now.keys c.known_group.new.firsts.keys done.known
          (step_more c.args.chosen.now c.args.firsts.now.keys c.rows.firsts.keys c.known_group.new.firsts.keys c.rows.groups.items c.push.new.self.items _ _
          c.rows.invariant.finding (omega (arith, at, c.len.ensures, c.len-in-rows.ensures, c.rows-test.true)) refl refl refl
          (ap (λ (k : ℕ). slice_index_or c.args.chosen.now.rows.now k 0) at)
          done.inserted done.place c.in_ok-push.ensures.items);
      known = done.known;
      long = omega (arith, done.long, c.rows.invariant.long);
      few = known.few;
    }
