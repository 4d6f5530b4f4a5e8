use Rattle.std.proofs.Common.{◌≡◌, ◌-◌, ◌<◌, ◌++◌, ◌∷◌, [], ℕ, List, take, set, length, ap, ◌∙◌, sym, subst, rules}
use Rattle.std.specs.Prelude.{IsTrue}
use Rattle.ps_shapes.specs.declared.path.Segment.{Segment}
use Rattle.ps_shapes.specs.Path.{IsPath, is_move}
use Rattle.ps_shapes.proofs.Paths.{last_replaced, path_replaced}
use Rattle.ps_shapes.proofs.path.Path.replace_last.Goals as goal

pub invariant_of-self : goal.invariant_of-self
invariant_of-self c =
    let xs = c.self.inside.segments.items in
    let y = c.args.segment in
    let len : c.len-last.result ≡ length xs = search rules in
    let some : 0 < length xs = subst (λ (l : List Segment). 0 < length l) (sym c.self.view_is) c.requires.some in
    let first : length xs ≡ 1 → IsTrue (is_move y) = subst (λ (l : List Segment). length l ≡ 1 → IsTrue (is_move y)) (sym c.self.view_is) c.requires.first in
    subst (λ (k : ℕ). IsPath (set xs (k - 1) y)) (sym len) (path_replaced xs y some first c.self.invariant)

pub returns : goal.returns
returns c =
    let xs = c.self.inside.segments.items in
    let y = c.args.segment in
    let len : c.len-last.result ≡ length xs = search rules in
    let some : 0 < length xs = subst (λ (l : List Segment). 0 < length l) (sym c.self.view_is) c.requires.some in
    ap (λ k. set xs (k - 1) y) len ∙ last_replaced xs y some ∙ ap (λ l. take (length l - 1) l ++ y ∷ []) c.self.view_is
