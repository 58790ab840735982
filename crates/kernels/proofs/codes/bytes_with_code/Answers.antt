use Rattle.std.proofs.Common.{◌+◌, ◌-◌, ◌*◌, ◌∙◌, ℕ, List, length, ap, arith, take, drop, eqb, w8}
use Rattle.std.specs.Simd.Lanes.{mask_l, chunk}
use Rattle.std.proofs.lemmas.List.FromFn.{length-map-range_with_len}
use Rattle.std.proofs.lemmas.Simd.{bitmask_splat}
use Rattle.byteorder.specs.Endian.{little_from}
use Rattle.kernels.proofs.CodeLanes.{byte_lanes, lane_tests}
use Rattle.kernels.proofs.codes.bytes_with_code.Goals as goal

pub returns : goal.returns
returns c =
    let values = c.args.values.now in
    let from = c.args.from in
    let xs : List ℕ = chunk 0 64 (take (from + 64 - from) (drop from values)) in
    let are = byte_lanes from values (omega arith) in
    bitmask_splat w8 eqb xs 64 c.args.code (ap length are ∙ length-map-range_with_len (λ (place : ℕ). little_from (1 * place) 1 values) from 64) (omega arith)
    ∙ ap mask_l (lane_tests (λ (x : ℕ). eqb x c.args.code) 1 64 from values xs are)
