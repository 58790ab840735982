use Rattle.std.proofs.Common.{◌<◌, ℕ, length, sym, subst, ◌∙◌, arith}
use Rattle.std.proofs.Math.ListN.{set}
use Rattle.std.proofs.lemmas.List.{get_or_read}
use Rattle.hash_join.specs.Chains.{HasLinked}
use Rattle.hash_join.specs.Hashes.{last_of}
use Rattle.hash_join.specs.Rights.{bucket_at}
use Rattle.hash_join.proofs.Linking.{link_some, link_none}
use Rattle.hash_join.proofs.chains.OpenChains.link_row.Goals as goal

pub returns-in-Some : goal.returns-in-Some
returns-in-Some c =
    let rights = c.args.rights.now in
    let heads = c.args.self.now.heads.items in
    let links = c.args.self.now.links.items in
    let bucket = c.in-Some.bucket in
    let there : bucket < length heads = omega (arith, c.in-Some.ensures.within, c.requires.linked.linked.heads_count) in
    let head = get_or_read heads bucket c.index.result.now there c.index.ensures 0 in
    record {
      linked = subst (λ (next : ℕ). HasLinked rights (set heads bucket c.args.row) (set links c.args.row next) c.args.row) (sym head)
          (link_some (bucket_at rights) (last_of rights.buckets) (length rights.places.items) heads links c.args.row
          bucket c.requires.linked.linked c.requires.within (sym c.in-Some.ensures.bucket) c.in-Some.ensures.within);
      seen = c.bucket.ensures.seen;
    }

pub returns-in_default : goal.returns-in_default
returns-in_default c =
    let rights = c.args.rights.now in
    let chains = c.args.self.now in
    record {
      linked = link_none (bucket_at rights) (last_of rights.buckets) (length rights.places.items) chains.heads.items chains.links.items c.args.row
          c.requires.linked.linked (sym c.bucket.ensures.bucket ∙ c.in_default.is);
      seen = c.bucket.ensures.seen;
    }
