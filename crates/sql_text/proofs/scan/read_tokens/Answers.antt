use Rattle.std.proofs.Common.{◌≡◌, map, [], Some, sym, ◌∙◌, refl, arith, append-nil}
use Rattle.std.proofs.lemmas.List.{map-append}
use Rattle.std.proofs.lemmas.Str.{IsUtf8-drop}
use Rattle.sql_text.specs.Reading.{front_at}
use Rattle.sql_text.specs.Calls.{lexeme_of}
use Rattle.sql_text.proofs.Boundaries.{front_cut}
use Rattle.sql_text.proofs.Scanning.{loop_more, scan_stop, scan_end, too_long, no_glance, fits, some_left, none_left}
use Rattle.sql_text.proofs.scan.read_tokens.Goals as goal

pub returns-then-sql-gt-MOST_BYTES-clause-exact : goal.returns-then-sql-gt-MOST_BYTES-clause-exact
returns-then-sql-gt-MOST_BYTES-clause-exact c = λ other. too_long c.args.sql.now c.if-sql-gt-MOST_BYTES.true

-- no piece stands where the loop is
pub returns-in_default-clause-exact : goal.returns-in_default-clause-exact
returns-in_default-clause-exact c = λ other.
    let inv = c.loop-rest.invariant in
    fits c.args.sql.now inv.small ∙ sym inv.left
    ∙ scan_stop (map lexeme_of c.loop-rest.tokens.items) _ c.loop-rest.rest.now (some_left c.loop-rest.rest.now c.is_empty.result c.is_empty.ensures c.loop-rest-test.true) (sym c.front_of.ensures.front ∙ c.in_default.is)

pub loop-rest-preserved-in_ok-push : goal.loop-rest-preserved-in_ok-push
loop-rest-preserved-in_ok-push c =
    let inv = c.loop-rest.invariant in
    let rest = c.loop-rest.rest.now in
    let front = c.in-Some.front in
    let read : front_at rest ≡ Some front = sym c.front_of.ensures.front ∙ c.in-Some.is in
    let cut = front_cut rest front inv.utf8 read in
    let parts = c.split_at.ensures in
    let pushed = c.in_ok-push.ensures.items in
    record {
      utf8 = rw parts.back (IsUtf8-drop rest front.len inv.utf8 cut);
      small = inv.small;
      within = omega arith;
      left = rw (pushed, map-append) (loop_more (map lexeme_of c.loop-rest.tokens.items) _ _ _ rest c.split_at.result.1.now front _ read parts.back (omega arith) (rw (c.in-Some-kind.is, ← parts.front) refl) inv.left);
    }

pub loop-rest-preserved : goal.loop-rest-preserved
loop-rest-preserved c =
    let inv = c.loop-rest.invariant in
    let rest = c.loop-rest.rest.now in
    let front = c.in-Some.front in
    let read : front_at rest ≡ Some front = sym c.front_of.ensures.front ∙ c.in-Some.is in
    let cut = front_cut rest front inv.utf8 read in
    let parts = c.split_at.ensures in
    record {
      utf8 = rw parts.back (IsUtf8-drop rest front.len inv.utf8 cut);
      small = inv.small;
      within = omega arith;
      left = rw (← append-nil (map lexeme_of c.loop-rest.tokens.items)) (loop_more (map lexeme_of c.loop-rest.tokens.items) [] _ _ rest c.split_at.result.1.now front _ read parts.back (omega arith) (rw c.in_default-kind.is refl) inv.left);
    }

pub returns-clause-exact : goal.returns-clause-exact
returns-clause-exact c =
    let inv = c.loop-rest.invariant in
    fits c.args.sql.now inv.small ∙ sym inv.left
    ∙ scan_end (map lexeme_of c.loop-rest.tokens.items) _ c.loop-rest.rest.now (none_left c.loop-rest.rest.now c.is_empty.result c.is_empty.ensures c.loop-rest-test.false)

pub returns-in_default-clause-first : goal.returns-in_default-clause-first
returns-in_default-clause-first c = no_glance _ c.args.sql.now c.loop-rest.invariant.small

pub returns-clause-first : goal.returns-clause-first
returns-clause-first c = no_glance _ c.args.sql.now c.loop-rest.invariant.small
