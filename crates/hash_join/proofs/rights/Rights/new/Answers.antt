use Rattle.std.proofs.Common.{◌≡◌, ◌<◌, ◌≤◌, ◌^◌, length, ap, subst, sym, ◌∙◌, arith}
use Rattle.scan_base.specs.Limits.{most_rows}
use Rattle.hash_join.specs.Pairs.{places}
use Rattle.hash_join.specs.Hashes.{last_of}
use Rattle.hash_join.specs.declared.buckets.Buckets.{Buckets}
use Rattle.hash_join.proofs.rights.Rights.new.Goals as goal
use Rattle.hash_join.proofs.rights.Rights.new.Goals.{in-Some+in_ok-of-in-Some, in-None, in-None-2}

pub returns-clause-whole : goal.returns-clause-whole
returns-clause-whole c =
    let are : c.in_ok-places.places.items ≡ places c.args.batches.items = c.in_ok-places.ensures ∙ ap places c.deref.ensures.value in
    let few : length c.in_ok-places.places.items ≤ most_rows = omega (arith, ap length are, c.requires.few) in
    let power : c.next_power_of_two-mask.result ≤ 2 ^ 26 = omega (arith, few, c.next_power_of_two-mask.ensures.upper_bound, c.len.ensures, c.in_ok-places.places.ok) in
    record {
      places = are;
      few = few;
      columns = c.requires.there;
      last = elim c.match-of.branch [
        | in-Some+in_ok-of-in-Some w ↦ subst (λ (buckets : Buckets). last_of buckets < 2 ^ 32) (sym w.buckets-is) (omega (arith, w.in_ok-of-in-Some.ensures))
        | in-None w ↦ subst (λ (buckets : Buckets). last_of buckets < 2 ^ 32) (sym w.buckets-is) (omega (arith, w.new.ensures, power))
        | in-None-2 w ↦ subst (λ (buckets : Buckets). last_of buckets < 2 ^ 32) (sym w.buckets-is) (omega (arith, power))
      ];
    }
