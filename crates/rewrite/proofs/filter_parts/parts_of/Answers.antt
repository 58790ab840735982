use Rattle.std.proofs.Common.{◌++◌, map, ap, ◌∙◌}
use Rattle.scan_base.specs.View.{pred_of}
use Rattle.rewrite.proofs.TakenApart.{sides_behind, popped_lighter, part_kept, part_left_out}
use Rattle.rewrite.proofs.filter_parts.parts_of.Goals as goal

pub loop-next-smaller-in-Some-take_sides : goal.loop-next-smaller-in-Some-take_sides
loop-next-smaller-in-Some-take_sides c =
    (sides_behind c.loop-next.rest.items c.pop.new.self.items c.push-in-Some-take_sides.new.self.items
    c.push-in-Some-take_sides-2.new.self.items c.in-Some.next c.in-Some-take_sides.left c.in-Some-take_sides.right
    c.in-Some.ensures.items c.in_ok-push-2.ensures.items c.in_ok-push-3.ensures.items c.in-Some-take_sides.ensures).1

pub loop-next-preserved-in-Some-take_sides : goal.loop-next-preserved-in-Some-take_sides
loop-next-preserved-in-Some-take_sides c =
    ap (λ some. map pred_of c.loop-next.parts.items ++ some)
    (sides_behind c.loop-next.rest.items c.pop.new.self.items c.push-in-Some-take_sides.new.self.items
    c.push-in-Some-take_sides-2.new.self.items c.in-Some.next c.in-Some-take_sides.left c.in-Some-take_sides.right
    c.in-Some.ensures.items c.in_ok-push-2.ensures.items c.in_ok-push-3.ensures.items c.in-Some-take_sides.ensures).0
    ∙ c.loop-next.invariant

pub loop-next-smaller-in-Continue-branch-4 : goal.loop-next-smaller-in-Continue-branch-4
loop-next-smaller-in-Continue-branch-4 c = popped_lighter c.loop-next.rest.items c.pop.new.self.items c.in-Some.next c.in-Some.ensures.items

pub loop-next-preserved-in-Continue-branch-4 : goal.loop-next-preserved-in-Continue-branch-4
loop-next-preserved-in-Continue-branch-4 c =
    part_kept c.loop-next.parts.items c.push-then-not-is_sure.new.self.items c.loop-next.rest.items c.pop.new.self.items
    c.in-Some.next c.take_sides.new.predicate c.is_sure.result c.in_ok-push-4.ensures.items c.in-Some.ensures.items
    c.in_default-take_sides.ensures.0 c.in_default-take_sides.ensures.1 c.is_sure.ensures c.if-not-is_sure.true
    ∙ c.loop-next.invariant

pub loop-next-smaller : goal.loop-next-smaller
loop-next-smaller c = popped_lighter c.loop-next.rest.items c.pop.new.self.items c.in-Some.next c.in-Some.ensures.items

pub loop-next-preserved : goal.loop-next-preserved
loop-next-preserved c =
    part_left_out c.loop-next.parts.items c.loop-next.rest.items c.pop.new.self.items
    c.in-Some.next c.take_sides.new.predicate c.is_sure.result c.in-Some.ensures.items
    c.in_default-take_sides.ensures.0 c.in_default-take_sides.ensures.1 c.is_sure.ensures c.if-not-is_sure.false
    ∙ c.loop-next.invariant
