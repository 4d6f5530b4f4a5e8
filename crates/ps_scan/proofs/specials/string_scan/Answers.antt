use Rattle.ps_scan.proofs.StringLemmas.{too_long, short_enough}
use Rattle.ps_scan.proofs.specials.string_scan.Goals as goal

pub returns-then-limited-gt-STRING_LIMIT : goal.returns-then-limited-gt-STRING_LIMIT
returns-then-limited-gt-STRING_LIMIT c bytes keeps = too_long c.args.limited bytes c.args.next _ c.if-limited-gt-STRING_LIMIT.true keeps c.bad.ensures

pub returns : goal.returns
returns c bytes keeps = short_enough c.args.limited bytes c.args.next c.if-limited-gt-STRING_LIMIT.false keeps
