use Rattle.std.proofs.Common.{◌≡◌, ◌-◌, ◌<◌, ◌∷◌, length, set, drop, ap, ◌∙◌, reverse}
use Rattle.std.proofs.lemmas.List.{length-reverse}
use Rattle.copy_lists.proofs.Reversed.{newest_replaced}
use Rattle.copy_lists.proofs.stack.Stack.replace.Goals as goal

pub returns : goal.returns
returns g c =
    let xs = c.self.inside.items.items in
    let l : c.len-last.result ≡ length xs = c.len-last.ensures ∙ c.self.inside.items.ok.0 in
    let v : reverse xs ≡ c.args.self.now = c.self.view_is in
    let n : 0 < length (reverse xs) = rw v c.requires in
    ap (λ k. reverse (set xs (k - 1) c.args.item)) l ∙ newest_replaced xs c.args.item (rw (← length-reverse xs) n) ∙ ap (λ ys. c.args.item ∷ drop 1 ys) v
