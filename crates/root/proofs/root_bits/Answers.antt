-- `root::root_bits` meets its contract, by the law of the root in bits. Assumes nothing.
use native.Mathlib.Omega.{arith}
use Rattle.root.specs.RootLaw.{radicand_low, radicand_high, root_range, root_bits_small, root_of_bits}
use Rattle.root.proofs.root_bits.Goals as goal

pub overflow_mul-s : goal.overflow_mul-s
overflow_mul-s c = let s = c.scale-s in omega (arith, radicand_high s.result.q s.result.w s.ensures.low s.ensures.high)

pub whole_root-r-requires : goal.whole_root-r-requires
whole_root-r-requires c =
    let s = c.scale-s in
    let h = radicand_high s.result.q s.result.w s.ensures.low s.ensures.high in
    (radicand_low s.result.q s.result.w s.ensures.low s.ensures.high, omega arith)

pub overflow_add-result : goal.overflow_add-result
overflow_add-result c =
    let s = c.scale-s in
    omega (
      arith,
      root_range s.result.q s.result.w s.ensures.low s.ensures.high c.whole_root-r.result c.whole_root-r.ensures,
    )

pub overflow_mul-result : goal.overflow_mul-result
overflow_mul-result c = omega (arith, c.scale-s.ensures.reach)

pub overflow_add-result-3 : goal.overflow_add-result-3
overflow_add-result-3 c =
    let s = c.scale-s in
    let h = root_bits_small c.args.bits s.result.q s.result.w c.whole_root-r.result s.ensures c.whole_root-r.ensures in
    omega arith

pub returns : goal.returns
returns c =
    let s = c.scale-s in
    let b = c.args.bits in
    let r = c.whole_root-r in
    let h = root_bits_small b s.result.q s.result.w r.result s.ensures r.ensures in
    (root_of_bits b s.result.q s.result.w r.result s.ensures r.ensures _ (omega arith), omega arith)
