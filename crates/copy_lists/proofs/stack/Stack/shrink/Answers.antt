use Rattle.std.proofs.Common.{◌≡◌, ◌-◌, ◌≤◌, length, take, drop, ap, ◌∙◌, reverse}
use Rattle.std.proofs.lemmas.List.{length-reverse}
use Rattle.copy_lists.proofs.Reversed.{shrunk}
use Rattle.copy_lists.proofs.stack.Stack.shrink.Goals as goal

pub returns : goal.returns
returns g c =
    let xs = c.self.inside.items.items in
    let l : c.len.result ≡ length xs = c.len.ensures ∙ c.self.inside.items.ok.0 in
    let v : reverse xs ≡ c.args.self.now = c.self.view_is in
    let n : c.args.n ≤ length (reverse xs) = rw v c.requires in
    ap reverse (c.truncate.ensures.items ∙ ap (λ m. take (m - c.args.n) xs) l) ∙ shrunk xs c.args.n (rw (← length-reverse xs) n) ∙ ap (drop c.args.n) v
