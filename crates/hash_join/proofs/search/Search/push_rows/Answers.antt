use Rattle.std.proofs.Common.{◌≡◌, ◌≤◌, ◌<◌, ◌-◌, ◌++◌, ℕ, Bool, true, List, All, length, map, take, drop, sym, ap, subst, ◌∙◌, arith}
use Rattle.std.specs.List.{filter, range_with_len}
use Rattle.std.proofs.lemmas.List.{take_at}
use Rattle.std.proofs.lemmas.List.Elements.{filter_passes}
use Rattle.hash_join.specs.declared.build.Probe.{Probe}
use Rattle.hash_join.specs.Searches.{ahead_of, probe_at, start_at, AreStarts}
use Rattle.hash_join.proofs.Piecing.{kept_below, piece_begins, went_on}
use Rattle.hash_join.proofs.search.Search.push_rows.Goals as goal

pub find_heads-requires-clause-rows : goal.find_heads-requires-clause-rows
find_heads-requires-clause-rows g c =
    let search = c.args.self.now in
    let passes = g.S.Sieve.passes c.args.sieve.now in
    let rows = g.S.Sieve.count c.args.sieve.now in
    let left = c.pieces.at.left in
    let to = c.min-to.result in
    let count = c.keep_passing-count.result in
    let new = c.keep_passing-count.new.kept in
    let low : left ≤ to = omega (arith, c.min-to.ensures, c.pieces-test.true) in
    let within : to ≤ search.left.batch.now.rows = omega (arith, c.min-to.ensures, c.rows-rows.ensures) in
    let all : search.left.batch.now.rows ≤ rows = c.requires.all in
    let same : length new ≡ length c.deref_mut.result.now = c.keep_passing-count.ensures.long in
    let long : length new ≡ c.pieces.kept.len = omega (arith, same, c.deref_mut.ensures.len) in
    let value : c.deref.result.now ≡ new = c.deref.ensures.value ∙ take_at new (drop (length new) c.pieces.kept.items) c.pieces.kept.len long in
    let kept : take count new ≡ filter passes (range_with_len left (to - left)) = c.keep_passing-count.ensures.kept in
    subst (λ (rows_kept : List ℕ). All (λ (row : ℕ). row < rows) rows_kept) (sym (ap (take count) value ∙ kept))
    (kept_below passes left (to - left) rows (omega (arith, low, within, all)))

pub find_heads-requires-clause-passes : goal.find_heads-requires-clause-passes
find_heads-requires-clause-passes g c =
    let passes = g.S.Sieve.passes c.args.sieve.now in
    let left = c.pieces.at.left in
    let to = c.min-to.result in
    let count = c.keep_passing-count.result in
    let new = c.keep_passing-count.new.kept in
    let same : length new ≡ length c.deref_mut.result.now = c.keep_passing-count.ensures.long in
    let long : length new ≡ c.pieces.kept.len = omega (arith, same, c.deref_mut.ensures.len) in
    let value : c.deref.result.now ≡ new = c.deref.ensures.value ∙ take_at new (drop (length new) c.pieces.kept.items) c.pieces.kept.len long in
    let kept : take count new ≡ filter passes (range_with_len left (to - left)) = c.keep_passing-count.ensures.kept in
    subst (All (λ (row : ℕ). passes row ≡ true)) (sym (ap (take count) value ∙ kept)) (filter_passes passes (range_with_len left (to - left)))

pub push_piece-requires-clause-starts : goal.push_piece-requires-clause-starts
push_piece-requires-clause-starts g c =
    let search = c.args.self.now in
    let passes = g.S.Sieve.passes c.args.sieve.now in
    let head = g.S.Sieve.head c.args.sieve.now in
    let own = g.S.Sieve.own c.args.sieve.now in
    let left = c.pieces.at.left in
    let to = c.min-to.result in
    let count = c.keep_passing-count.result in
    let new = c.keep_passing-count.new.kept in
    let low : left ≤ to = omega (arith, c.min-to.ensures, c.pieces-test.true) in
    let within : to ≤ search.left.batch.now.rows = omega (arith, c.min-to.ensures, c.rows-rows.ensures) in
    let same : length new ≡ length c.deref_mut.result.now = c.keep_passing-count.ensures.long in
    let long : length new ≡ c.pieces.kept.len = omega (arith, same, c.deref_mut.ensures.len) in
    let value : c.deref.result.now ≡ new = c.deref.ensures.value ∙ take_at new (drop (length new) c.pieces.kept.items) c.pieces.kept.len long in
    let kept : take count new ≡ filter passes (range_with_len left (to - left)) = c.keep_passing-count.ensures.kept in
    let found : c.find_heads.new.starts.items ≡ map (start_at head) (take count c.deref.result.now) = c.in_ok-find_heads.ensures.starts in
    let it = piece_begins search passes head own c.requires.sound c.requires.heads left to (take count c.deref.result.now) c.as_slice.result.now low within
    (ap (take count) value ∙ kept) (c.as_slice.ensures.value ∙ found) in
    let own_is : c.is_own.result ≡ own = c.is_own.ensures in
    subst (λ (all : Bool). AreStarts search all to c.as_slice.result.now) (sym own_is) it.starts_are

pub returns-then-len-most-clause-given : goal.returns-then-len-most-clause-given
returns-then-len-most-clause-given g c =
    let search = c.args.self.now in
    let passes = g.S.Sieve.passes c.args.sieve.now in
    let head = g.S.Sieve.head c.args.sieve.now in
    let own = g.S.Sieve.own c.args.sieve.now in
    let left = c.pieces.at.left in
    let to = c.min-to.result in
    let count = c.keep_passing-count.result in
    let new = c.keep_passing-count.new.kept in
    let low : left ≤ to = omega (arith, c.min-to.ensures, c.pieces-test.true) in
    let within : to ≤ search.left.batch.now.rows = omega (arith, c.min-to.ensures, c.rows-rows.ensures) in
    let same : length new ≡ length c.deref_mut.result.now = c.keep_passing-count.ensures.long in
    let long : length new ≡ c.pieces.kept.len = omega (arith, same, c.deref_mut.ensures.len) in
    let value : c.deref.result.now ≡ new = c.deref.ensures.value ∙ take_at new (drop (length new) c.pieces.kept.items) c.pieces.kept.len long in
    let kept : take count new ≡ filter passes (range_with_len left (to - left)) = c.keep_passing-count.ensures.kept in
    let found : c.find_heads.new.starts.items ≡ map (start_at head) (take count c.deref.result.now) = c.in_ok-find_heads.ensures.starts in
    let it = piece_begins search passes head own c.requires.sound c.requires.heads left to (take count c.deref.result.now) c.as_slice.result.now low within
    (ap (take count) value ∙ kept) (c.as_slice.ensures.value ∙ found) in
    went_on search c.requires.whole own c.pieces.at c.in_ok-at.at to c.as_slice.result.now c.pieces.made.pairs.items c.push_piece.new.made.pairs.items
    (c.args.made.now.pairs.items ++ ahead_of search (probe_at c.args.from 0)) c.pieces.invariant.first within it c.in_ok-at.ensures.given c.pieces.invariant.all

pub pieces-preserved : goal.pieces-preserved
pieces-preserved g c =
    let search = c.args.self.now in
    let passes = g.S.Sieve.passes c.args.sieve.now in
    let head = g.S.Sieve.head c.args.sieve.now in
    let own = g.S.Sieve.own c.args.sieve.now in
    let left = c.pieces.at.left in
    let to = c.min-to.result in
    let count = c.keep_passing-count.result in
    let new = c.keep_passing-count.new.kept in
    let low : left ≤ to = omega (arith, c.min-to.ensures, c.pieces-test.true) in
    let within : to ≤ search.left.batch.now.rows = omega (arith, c.min-to.ensures, c.rows-rows.ensures) in
    let same : length new ≡ length c.deref_mut.result.now = c.keep_passing-count.ensures.long in
    let long : length new ≡ c.pieces.kept.len = omega (arith, same, c.deref_mut.ensures.len) in
    let front = take_at new (drop (length new) c.pieces.kept.items) c.pieces.kept.len long in
    let value : c.deref.result.now ≡ new = c.deref.ensures.value ∙ front in
    let kept : take count new ≡ filter passes (range_with_len left (to - left)) = c.keep_passing-count.ensures.kept in
    let found : c.find_heads.new.starts.items ≡ map (start_at head) (take count c.deref.result.now) = c.in_ok-find_heads.ensures.starts in
    let it = piece_begins search passes head own c.requires.sound c.requires.heads left to (take count c.deref.result.now) c.as_slice.result.now low within
    (ap (take count) value ∙ kept) (c.as_slice.ensures.value ∙ found) in
    let less : length c.push_piece.new.made.pairs.items < c.args.most = omega (arith, c.if-len-most.false, c.len.ensures, c.push_piece.new.made.pairs.ok) in
    let at_end : c.in_ok-at.at ≡ probe_at to 0 = c.in_ok-at.ensures.ended less in
    let at_left : c.in_ok-at.at.left ≡ to = ap (λ (probe : Probe). probe.left) at_end in
    let room : length new ≡ c.min-room.result = omega (arith, long, c.pieces.kept.ok, c.pieces.invariant.kept) in
    record {
      within = omega (arith, at_left, within);
      after = omega (arith, at_left, low, c.pieces.invariant.after);
      first = ap (λ (probe : Probe). probe.from) at_end;
      kept = ap length front ∙ room;
      all = went_on search c.requires.whole own c.pieces.at c.in_ok-at.at to c.as_slice.result.now c.pieces.made.pairs.items c.push_piece.new.made.pairs.items
          (c.args.made.now.pairs.items ++ ahead_of search (probe_at c.args.from 0)) c.pieces.invariant.first within it c.in_ok-at.ensures.given c.pieces.invariant.all;
      few = c.in_ok-at.ensures.few;
      some = omega (arith, c.min-next.ensures, c.pieces.invariant.some);
      room = omega (arith, c.min-next.ensures);
      compared = c.in_ok-at.ensures.compared;
      seen = c.find_heads.ensures.seen;
    }
