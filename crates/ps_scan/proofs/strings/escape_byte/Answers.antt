use Rattle.ps_scan.proofs.StringLemmas.{escape_octal}
use Rattle.ps_scan.proofs.strings.escape_byte.Goals as goal

pub returns-then-is_octal : goal.returns-then-is_octal
returns-then-is_octal c =
    escape_octal c.args.text.now c.in_ok-first.first.now _ c.octal_length.result c.split_at.result.0.now c.digits_value.result c.in_ok-first.ensures.cases.0 (cc) c.octal_length.ensures.length c.split_at.ensures.front c.digits_value.ensures
