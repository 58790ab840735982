use Rattle.std.proofs.Common.{◌≡◌, ◌<◌, length, inl, inr, sym, ◌∙◌, arith}
use Rattle.std.proofs.lemmas.Bool.{cases_lt}
use Rattle.std.proofs.lemmas.List.{get_or_read}
use Rattle.hash_join.proofs.Walking.{head_leads}
use Rattle.hash_join.proofs.walk.Walk.first_in.Goals as goal

pub returns-then-from-eq0 : goal.returns-then-from-eq0
returns-then-from-eq0 c =
    let walk = c.args.self.now in
    let heads = walk.chains.now.heads.items in
    let there : c.args.bucket < length heads = omega (arith, c.requires.within, c.requires.whole.linked.heads_count) in
    let head = get_or_read heads c.args.bucket c.index.result.now there c.index.ensures 0 in
    rw (c.if-from-eq0.true, head) (head_leads walk c.requires.whole c.args.bucket c.requires.bucket c.requires.within)

pub rows-preserved : goal.rows-preserved
rows-preserved c = record {
  after = omega (arith, c.rows.invariant.after);
  none = λ row h l. elim (cases_lt row c.rows.at) [
    | inl lt ↦ c.rows.invariant.none row h lt
    | inr ge ↦ let e : row ≡ c.rows.at = omega arith in rw e (sym c.stands_in.ensures ∙ c.if-not-stands_in.true)
  ];
}
