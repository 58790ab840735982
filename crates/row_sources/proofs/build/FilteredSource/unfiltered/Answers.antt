use Rattle.std.proofs.Common.{◌≡◌, length, refl, ap, ◌∙◌, arith}
use Rattle.std.specs.List.{range_with_len}
use Rattle.row_sources.proofs.Unfiltered.{is_unfiltered}
use Rattle.row_sources.proofs.build.FilteredSource.unfiltered.Goals as goal

pub returns : goal.returns
returns c =
    let s = c.args.self in
    let count : c.len.result ≡ length s.columns.items = omega (arith, c.len.ensures, s.columns.ok) in
    is_unfiltered s c.requires (record {
      rows = c.in_ok-all_rows.field-0;
      picker = record { filters = s.filters; read = c.in_ok-numbers_below.field-0; shown = c.new.result };
      types = s.types;
    }) c.in_ok-all_rows.ensures refl (c.in_ok-numbers_below.ensures ∙ ap (range_with_len 0) count) c.new.ensures.items refl
