use Rattle.std.proofs.Common.{◌≡◌, ℕ, ◌+◌, ◌-◌, ◌<◌, ◌^◌, List, length, take, drop, ℤ, ap, subst, sym, ◌∙◌, arith}
use Rattle.std.specs.Prelude.{FitsSigned, pos, ◌+ℤ◌, ◌-ℤ◌}
use Rattle.std.proofs.lemmas.Int.{ints, to_z-of_z}
use Rattle.std.specs.Int.{w64, w128}
use Rattle.std.specs.List.{before_first, after_first}
use Rattle.ps_fixed.specs.Decimals.{decimal_of}
use Rattle.ps_scan.specs.Numbers.{unsigned, is_point, is_exponent_mark, mantissa}
use Rattle.ps_scan.specs.Significands.{IsNear}
use Rattle.ps_scan.proofs.RealLemmas.{real_is}
use Rattle.ps_scan.proofs.reals.real_value.Goals as goal

pub returns : goal.returns
returns c =
    let z : ℤ = c.near_scale-scale.result in
    let fits : FitsSigned w64 z = omega (arith, ints) in
    let row : List ℕ = c.args.row.now in
    let bytes : List ℕ = c.unsigned-bytes.result.now in
    let front : List ℕ = c.split_at.result.0.now in
    let exponent : List ℕ = c.split_at.result.1.now in
    let found = c.significand_of-found.result in
    let fraction : List ℕ = c.after-fraction.result.now in
    let later : ℕ = c.saturating_sub-later.result in
    let front_is : front ≡ mantissa row =
    c.split_at.ensures.front ∙ ap (λ (k : ℕ). take k bytes) c.exponent_place.ensures.place ∙ ap (before_first is_exponent_mark) c.unsigned-bytes.ensures in
    let exponent_is : exponent ≡ drop (length (mantissa row)) (unsigned row) =
    c.split_at.ensures.back ∙ ap (λ (k : ℕ). drop k bytes) (sym c.split_at.ensures.front_len ∙ ap length front_is) ∙ ap (drop (length (mantissa row))) c.unsigned-bytes.ensures in
    let exponent_fits : FitsSigned w128 c.exponent_value.result = omega (arith, ints, c.exponent_value.ensures.low, c.exponent_value.ensures.high) in
    let exponent_value = to_z-of_z w128 c.exponent_value.result exponent_fits ∙ c.exponent_value.ensures.value in
    let power = subst (λ (e : ℤ). IsNear z (e -ℤ pos (length fraction) +ℤ pos later)) exponent_value c.near_scale-scale.ensures in
    let fraction_is : length fraction ≡ length (after_first is_point front) =
    ap length (c.after-fraction.ensures ∙ ap (λ (k : ℕ). drop (k + 1) front) c.place_of.ensures.place) in
    let later_is : later ≡ found.digits - 18 = c.saturating_sub-later.ensures in
    let short : length fraction < 2 ^ 63 = omega (arith, ap length c.after-fraction.ensures, ap length c.unsigned-bytes.ensures) in
    let few : later < 2 ^ 63 = omega (arith, later_is, c.significand_of-found.ensures.digits) in
    c.decimal.ensures ∙ ap (decimal_of c.is_negative.result found.value) (to_z-of_z w64 z fits)
    ∙ ap (λ negative. decimal_of negative found.value z) c.is_negative.ensures
    ∙ real_is row front exponent found (length fraction) later z front_is exponent_is c.significand_of-found.ensures.is c.significand_of-found.ensures.value
    power fraction_is later_is short few
