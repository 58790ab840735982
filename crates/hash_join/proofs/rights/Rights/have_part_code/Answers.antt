use Rattle.std.proofs.Common.{◌≡◌, ◌<◌, ℕ, List, get_or, ap, subst, sym, ◌∙◌, arith}
use Rattle.std.proofs.lemmas.List.{get_or_read}
use Rattle.scan_base.specs.declared.value.Value.{Value}
use Rattle.scan_base.specs.declared.value.Value.TheVariants.{Null}
use Rattle.hash_join.specs.Rights.{place_at}
use Rattle.hash_join.proofs.Numbered.{beside_found, beside_there}
use Rattle.hash_join.proofs.rights.Rights.have_part_code.Goals as goal

pub has_part_of-requires-clause-other : goal.has_part_of-requires-clause-other
has_part_of-requires-clause-other c =
    let rights = c.args.self.now in
    let first = get_or_read rights.places.items c.args.number c.index.result.now c.requires.within c.index.ensures (0, 0) in
    let second = get_or_read rights.places.items c.args.other c.index-2.result.now c.requires.other c.index-2.ensures (0, 0) in
    let same : (place_at rights c.args.number).0 ≡ (place_at rights c.args.other).0 =
    omega (arith, ap (λ (p : ℕ × ℕ). p.0) first, ap (λ (p : ℕ × ℕ). p.0) second, c.if-batch-other_batch.false) in
    subst (λ (rows : ℕ). c.index-2.result.now.1 < rows) (sym c.key_row.ensures.rows)
    (beside_there rights c.args.number c.args.other c.index-2.result.now same second c.requires.whole c.requires.other)

pub returns : goal.returns
returns c =
    let rights = c.args.self.now in
    let part = c.args.part in
    let first = get_or_read rights.places.items c.args.number c.index.result.now c.requires.within c.index.ensures (0, 0) in
    let second = get_or_read rights.places.items c.args.other c.index-2.result.now c.requires.other c.index-2.ensures (0, 0) in
    let same : (place_at rights c.args.number).0 ≡ (place_at rights c.args.other).0 =
    omega (arith, ap (λ (p : ℕ × ℕ). p.0) first, ap (λ (p : ℕ × ℕ). p.0) second, c.if-batch-other_batch.false) in
    let beside = c.key_row.ensures.others c.index-2.result.now.1 ∙ beside_found rights c.args.number c.args.other c.index-2.result.now same second in
    λ told. ap (λ (key : List Value). get_or key part Null) (sym c.key_row.ensures.key) ∙ c.has_part_of.ensures told
    ∙ ap (λ (key : List Value). get_or key part Null) beside
