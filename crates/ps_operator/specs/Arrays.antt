-- Arrays that are looked at whole.
use Rattle.std.specs.Prelude.{ℕ, ◌+◌, zero, suc, List, [], ◌∷◌, ◌++◌}
use Rattle.ps_objects.specs.declared.object.Object.{Object}
use Rattle.ps_objects.specs.declared.objects.Interval.{Interval}
use Rattle.ps_memory.specs.Tree.{Application}
use Rattle.ps_operator.specs.Tree.{found}
use Rattle.ps_operator.specs.Looks.{look_item}

-- looks at so many items in their order, after those that were seen
abbrev pub items_from : Interval → ℕ → ℕ → List Object → Application (List Object)
items_from a at zero seen = found seen
items_from a at (suc n) seen = look_item a at (λ x. items_from a (at + 1) n (seen ++ x ∷ []))

-- looks at an array whole
abbrev pub items_of : Interval → Application (List Object)
items_of a = items_from a 0 a.len []
