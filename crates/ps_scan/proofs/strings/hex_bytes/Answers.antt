use Rattle.std.proofs.Common.{◌≡◌, ℕ, ◌<◌, ◌++◌, ◌∷◌, [], true, length, get_or, List, subst, arith}
use Rattle.std.proofs.lemmas.Bool.Decides.{nat_tests}
use Rattle.ps_scan.specs.Strings.{is_hex_digit}
use Rattle.ps_scan.specs.Limited.{Keeps}
use Rattle.ps_scan.proofs.StringLemmas.{hex_none, hex_some, hex_skips}
use Rattle.ps_scan.proofs.strings.hex_bytes.Goals as goal
use Rattle.ps_scan.proofs.strings.hex_bytes.Goals.{then-is_hex_digit+in-None, then-is_hex_digit+in-Some+in_ok-push-in-Some, else-is_hex_digit}

pub digits-preserved : goal.digits-preserved
digits-preserved c =
    let text = c.args.text.now in
    let inside : c.digits.byte-index < length text = omega arith in
    elim c.if-is_hex_digit.branch [
      | then-is_hex_digit+in-None w ↦
          let digit : is_hex_digit (get_or text c.digits.byte-index 0) ≡ true = cc in
          rw (w.limited-is, w.first-is) (record {
            digit = grind (arith, nat_tests);
            short = omega (arith, c.digits.invariant.short);
            read = hex_none c.digits.limited text c.digits.byte-index inside digit (rw w.in-None.is at c.digits.invariant.read);
          })
      | then-is_hex_digit+in-Some+in_ok-push-in-Some w ↦
          let digit : is_hex_digit (get_or text c.digits.byte-index 0) ≡ true = cc in
          rw (w.limited-is, w.first-is) (record {
            digit = tt;
            short = omega (arith, c.digits.invariant.short, w.in_ok-push-in-Some.ensures.length);
            read = hex_some c.digits.limited w.push.new.self w.in-Some.high text c.digits.byte-index inside digit
                (λ (bytes : List ℕ) (keeps : Keeps c.digits.limited bytes). subst (λ (v : ℕ). Keeps w.push.new.self (bytes ++ (v ∷ []))) w.hex_byte.ensures (w.in_ok-push-in-Some.ensures.keeps bytes keeps))
                (rw w.in-Some.is at c.digits.invariant.read);
          })
      | else-is_hex_digit w ↦
          rw (w.limited-is, w.first-is) (record {
            digit = c.digits.invariant.digit;
            short = omega (arith, c.digits.invariant.short);
            read = hex_skips c.digits.limited c.digits.first text c.digits.byte-index inside (cc) c.digits.invariant.read;
          })
    ]
