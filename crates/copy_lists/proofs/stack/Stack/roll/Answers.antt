use Rattle.std.proofs.Common.{◌≡◌, ◌≤◌, length, ap, ◌∙◌, reverse}
use Rattle.std.proofs.lemmas.List.{length-reverse}
use Rattle.copy_lists.specs.Turned.{rolled}
use Rattle.copy_lists.proofs.Reversed.{roll_view}
use Rattle.copy_lists.proofs.stack.Stack.roll.Goals as goal

pub returns : goal.returns
returns g c =
    let xs = c.self.inside.items.items in
    let v : reverse xs ≡ c.args.self.now = c.self.view_is in
    let n : c.args.n ≤ length (reverse xs) = rw v c.requires.n in
    ap reverse c.turn_end.ensures ∙ roll_view xs c.args.n c.args.k (rw (← length-reverse xs) n) c.requires.k ∙ ap (rolled c.args.n c.args.k) v
