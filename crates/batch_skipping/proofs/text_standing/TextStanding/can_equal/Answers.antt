use Rattle.std.proofs.Common.{◌&&◌, ◌||◌, nat_lt, refl, ap, ◌∙◌}
use Rattle.std.specs.Ordering.{is_ge, is_le, is_ne}
use Rattle.batch_skipping.proofs.Standings.{equal_so, same_three}
use Rattle.batch_skipping.proofs.text_standing.TextStanding.can_equal.Goals as goal

pub returns : goal.returns
returns c = λ a b so.
    let least = c.args.self.least in
    let greatest = c.args.self.greatest in
    let unknown = nat_lt 0 c.args.self.nulls in
    same_three (c.is_le.result && c.is_ge.result) (c.is_ne.result || c.is_ne-2.result) unknown (is_le least && is_ge greatest) (is_ne least || is_ne greatest) unknown
    (ap (λ p. p && c.is_ge.result) c.is_le.ensures ∙ ap (λ p. is_le least && p) c.is_ge.ensures)
    (ap (λ p. p || c.is_ne-2.result) c.is_ne.ensures ∙ ap (λ p. is_ne least || p) c.is_ne-2.ensures) refl
    ∙ equal_so c.args.self a b so
