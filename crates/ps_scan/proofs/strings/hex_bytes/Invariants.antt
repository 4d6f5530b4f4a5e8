use Rattle.std.proofs.Common.{◌≡◌, ◌<◌, ◌≤◌, ◌++◌, List, ℕ, drop, option_to_list, IfSome}
use Rattle.std.specs.Prelude.{filter}
use Rattle.std.specs.Char.{digit_value}
use Rattle.ps_scan.specs.Strings.{is_hex_digit, pairs}
use Rattle.ps_scan.specs.Limited.{Keeps}
use Rattle.ps_scan.proofs.strings.hex_bytes.Given as goal

abbrev pub invariant-digits : goal.invariant-digits
invariant-digits l =
    record {
      digit : IfSome l.first (λ b. digit_value b < 16);
      short : l.limited.length ≤ l.byte-index;
      read : (bytes : List ℕ) × (Keeps l.limited bytes
          × (pairs (filter is_hex_digit l.text) ≡ bytes ++ pairs (option_to_list l.first ++ filter is_hex_digit (drop l.byte-index l.text))));
    }
