use Rattle.std.proofs.Common.{sym, ◌∙◌, subst}
use Rattle.hash_join.specs.Searches.{IsBucketKind}
use Rattle.hash_join.proofs.search.Search.push_row.Goals as goal

pub push_bucket-requires-clause-bucket : goal.push_bucket-requires-clause-bucket
push_bucket-requires-clause-bucket g c =
    let left = c.args.probe.now.left in
    (subst (IsBucketKind c.args.self.now left) (sym c.tell.ensures ∙ c.in-Shared.is) (c.requires.told left c.requires.row)).is

pub push_bucket-requires-clause-within : goal.push_bucket-requires-clause-within
push_bucket-requires-clause-within g c =
    let left = c.args.probe.now.left in
    (subst (IsBucketKind c.args.self.now left) (sym c.tell.ensures ∙ c.in-Shared.is) (c.requires.told left c.requires.row)).within

pub push_chain-requires-clause-bucket : goal.push_chain-requires-clause-bucket
push_chain-requires-clause-bucket g c =
    let left = c.args.probe.now.left in
    (subst (IsBucketKind c.args.self.now left) (sym c.tell.ensures ∙ c.in-Own.is) (c.requires.told left c.requires.row)).0.is

pub push_chain-requires-clause-within : goal.push_chain-requires-clause-within
push_chain-requires-clause-within g c =
    let left = c.args.probe.now.left in
    (subst (IsBucketKind c.args.self.now left) (sym c.tell.ensures ∙ c.in-Own.is) (c.requires.told left c.requires.row)).0.within

pub push_chain-requires-clause-all : goal.push_chain-requires-clause-all
push_chain-requires-clause-all g c =
    let left = c.args.probe.now.left in
    (subst (IsBucketKind c.args.self.now left) (sym c.tell.ensures ∙ c.in-Own.is) (c.requires.told left c.requires.row)).1
