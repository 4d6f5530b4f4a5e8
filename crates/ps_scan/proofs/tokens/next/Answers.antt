use Rattle.std.proofs.Common.{◌≡◌, length, subst, sym}
use Rattle.std.proofs.lemmas.Result.{IfOk-weaker}
use Rattle.ps_scan.specs.Token.{token_at, MovesOn}
use Rattle.ps_scan.specs.declared.tokens.Scan.{Scan}
use Rattle.ps_scan.proofs.TokenLemmas.{at_moves}
use Rattle.ps_scan.proofs.tokens.next.Goals as goal

pub returns-clause-moves : goal.returns-clause-moves
returns-clause-moves c =
    let text = c.args.text.now in
    IfOk-weaker c.token_at.result _ _ (λ (scan : Scan) (is : scan ≡ token_at text c.args.pos). subst (MovesOn c.args.pos (length text)) (sym is) (at_moves text c.args.pos c.requires)) c.token_at.ensures
