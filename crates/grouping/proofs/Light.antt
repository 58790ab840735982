-- Texts of an item that are light, of fewer groups too.
use Rattle.std.proofs.Common.{◌≤◌, ℕ, ◌+◌, length, subst, arith, below_more}
use Rattle.std.proofs.lemmas.List.FromFn.{take-map-range_with_len, length-map-range_with_len}
use Rattle.array_select.specs.Fitting.{AreLight, Fits}
use Rattle.array_select.specs.Room.{share_among}
use Rattle.array_select.proofs.Light.{lighter}
use Rattle.grouping.specs.AnswerRows.{cell_at}
use Rattle.grouping.specs.FedRows.{GroupsAt}
use Rattle.grouping.specs.inside.Finishing.{GroupsFit, IsItemLight, item_cells}

-- one item more, which may leave fewer groups
pub fit_more : (groups : GroupsAt) (from most items count fewer : ℕ) → GroupsFit groups from most items count →
    Fits (share_among (length groups.items)) (item_cells groups items from count) fewer → GroupsFit groups from most (items + 1) fewer
fit_more groups from most items count fewer fit fits =
    let share = share_among (length groups.items) in
    let within : fewer ≤ count = let all = fits.within in omega (arith, all, length-map-range_with_len (λ group. cell_at groups group items) from count) in
    record {
      some = fits.some;
      within = omega (arith, within, fit.within);
      light = below_more (IsItemLight groups from fewer) items
          (λ item low. subst (AreLight share) (take-map-range_with_len (λ group. cell_at groups group item) from count fewer within)
          (lighter share fewer (item_cells groups item from count) (fit.light item low)))
          (subst (AreLight share) (take-map-range_with_len (λ group. cell_at groups group items) from count fewer within) fits.light);
    }
