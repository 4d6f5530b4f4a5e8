use Rattle.std.proofs.Common.{◌≡◌, ◌≤◌, length, ap, ◌∙◌, reverse, lit≤}
use Rattle.std.proofs.lemmas.List.{length-reverse}
use Rattle.copy_lists.specs.Turned.{rolled}
use Rattle.copy_lists.proofs.Reversed.{roll_view}
use Rattle.copy_lists.proofs.stack.Stack.exchange.Goals as goal

pub returns : goal.returns
returns g c =
    let xs = c.self.inside.items.items in
    let v : reverse xs ≡ c.args.self.now = c.self.view_is in
    let n : 2 ≤ length (reverse xs) = rw v c.requires in
    ap reverse c.turn_end.ensures ∙ roll_view xs 2 1 (rw (← length-reverse xs) n) (lit≤ tt) ∙ ap (rolled 2 1) v
