use Rattle.std.proofs.Common.{◌<◌, ◌≤◌, ◌^◌, min, take}
use Rattle.ps_scan.specs.Significands.{IsSignificand}
use Rattle.ps_scan.proofs.reals.significand_of.Given as goal

abbrev pub invariant-loop-byte : goal.invariant-loop-byte
invariant-loop-byte l =
    record {
      is : IsSignificand l.found (take l.byte-index l.mantissa);
      value : l.found.value < 10 ^ min l.found.digits 18;
      digits : l.found.digits ≤ l.byte-index;
    }
