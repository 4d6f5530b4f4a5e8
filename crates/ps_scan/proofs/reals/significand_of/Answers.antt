use Rattle.std.proofs.Common.{◌<◌, min, length, arith}
use Rattle.ps_scan.proofs.RealLemmas.{significand_step, significand_other, power_limit, behind_digits}
use Rattle.ps_scan.proofs.reals.significand_of.Goals as goal
use Rattle.ps_scan.proofs.reals.significand_of.Goals.{then-is_ascii_digit, else-is_ascii_digit}

pub loop-byte-preserved : goal.loop-byte-preserved
loop-byte-preserved c =
    let inside : c.loop-byte.byte-index < length c.args.mantissa.now = omega arith in
    elim c.if-is_ascii_digit.branch [
      | then-is_ascii_digit w ↦
          let next = w.with_digit-found.ensures.next in
          rw w.found-is (record {
            is = rw next (significand_step c.loop-byte.found c.args.mantissa.now c.loop-byte.byte-index w.digit_value.result inside w.digit_value.ensures (cc) c.loop-byte.invariant.is);
            value = w.with_digit-found.ensures.value;
            digits = rw next (omega (arith, behind_digits c.loop-byte.found w.digit_value.result, c.loop-byte.invariant.digits));
          })
      | else-is_ascii_digit w ↦
          rw w.found-is (record {
            is = significand_other c.loop-byte.found c.args.mantissa.now c.loop-byte.byte-index inside (cc) c.loop-byte.invariant.is;
            value = c.loop-byte.invariant.value;
            digits = omega (arith, c.loop-byte.invariant.digits);
          })
    ]

pub returns-clause-value : goal.returns-clause-value
returns-clause-value c =
    let most = power_limit (min c.loop-byte.found.digits 18) (omega arith) in
    omega (arith, c.loop-byte.invariant.value)
