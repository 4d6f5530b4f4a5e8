use Rattle.std.proofs.Common.{◌≡◌, ◌<◌, [], ◌∷◌, ◌++◌}
use Rattle.ps_scan.proofs.StringLemmas.{keeps_within, keeps_beyond}
use Rattle.ps_scan.proofs.strings.Limited.push.Goals as goal

pub returns-then-self-ge-STRING_LIMIT-clause-keeps : goal.returns-then-self-ge-STRING_LIMIT-clause-keeps
returns-then-self-ge-STRING_LIMIT-clause-keeps c bytes keeps =
    keeps_beyond c.args.self.now.text bytes c.args.self.now.length c.args.byte c.if-self-ge-STRING_LIMIT.true keeps

pub returns-clause-keeps : goal.returns-clause-keeps
returns-clause-keeps c bytes keeps =
    let pushed : c.push.new.self ≡ c.args.self.now.text ++ (c.args.byte ∷ []) = c.in_ok-push.ensures.ok in
    let below : c.args.self.now.length < 65535 = c.if-self-ge-STRING_LIMIT.false in
    rw pushed (keeps_within c.args.self.now.text bytes c.args.self.now.length c.args.byte below keeps)
